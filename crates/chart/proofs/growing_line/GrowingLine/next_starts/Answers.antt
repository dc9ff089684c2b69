use Rattle.std.proofs.Common.{◌≡◌, length, subst, sym, ap, ◌∙◌}
use Rattle.std.proofs.lemmas.Bool.{eqb-true}
use Rattle.chart.specs.Events.{is_receive_from, is_in, region_of}
use Rattle.chart.specs.Runs.{EndsWithRun}
use Rattle.chart.proofs.InRegions.{region_of-in}
use Rattle.chart.proofs.Runs.{IsStartOfRun-push}
use Rattle.chart.proofs.growing_line.GrowingLine.next_starts.Goals as goal

pub returns-in-Receive : goal.returns-in-Receive
returns-in-Receive c =
    let line = c.args.self.now.line.events in
    let event = c.args.event.now in
    let from = c.in-Receive.from in
    let starts = c.receive_starts in
    record {
      run = IsStartOfRun-push is_receive_from line event starts.result.run starts.ensures.run.within
          (λ q pass. subst (λ x. EndsWithRun (is_receive_from x) line starts.result.run) (eqb-true from q (sym (ap (is_receive_from q) c.in-Receive.is) ∙ pass)) starts.ensures.run);
      region = IsStartOfRun-push is_in line event starts.result.region starts.ensures.region.within
          (λ q pass. subst (λ x. EndsWithRun (is_in x) line starts.result.region) (sym (ap region_of c.in-Receive.is) ∙ region_of-in q event pass) starts.ensures.region);
    }
