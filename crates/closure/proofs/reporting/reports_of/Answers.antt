use Rattle.std.proofs.Common.{List, [], ◌∷◌, ◌++◌, ◌∙◌, sym, subst}
use Rattle.chart.specs.Charts.{LineView}
use Rattle.closure.specs.Reported.{HaveReported}
use Rattle.closure.proofs.reporting.reports_of.Goals as goal

pub loop-receive-preserved : goal.loop-receive-preserved
loop-receive-preserved c =
    let same = c.loop-receive.invariant.0 in
    let had = subst (λ (ls : List LineView). HaveReported ls c.loop-receive.reporter.line c.loop-receive.reporter.place c.loop-receive.reports.items) (sym same) c.loop-receive.invariant.1 in
    let all = c.loop-receive.reports.items ++ record { receive = c.in-Some.receive; earlier = c.next.new.self.earlier } ∷ [] in (
      c.next.ensures.lines ∙ same,
      rw (c.in_ok-push.ensures.items, c.in_ok-report.ensures, c.earlier.ensures.events)
          (subst (λ (ls : List LineView). HaveReported ls c.next.new.self.line c.next.new.self.place all) same (c.in-Some.ensures.reported c.loop-receive.reports.items had)),
    )
