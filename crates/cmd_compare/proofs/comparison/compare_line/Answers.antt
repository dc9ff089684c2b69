use Rattle.std.proofs.Common.{List, refl, ap, ◌∙◌}
use Rattle.chart.specs.Charts.{LineView, chart_lines}
use Rattle.cmd_compare.specs.Ends.{other_of}
use Rattle.cmd_compare.proofs.DifferenceLemmas.{only_so}
use Rattle.cmd_compare.proofs.comparison.compare_line.Goals as goal

pub returns : goal.returns
returns c =
    let r = c.args.recordings.now in
    let p = c.args.instance in
    let q = c.other_of-other.result in
    let a = c.events_of-here.ensures.events ∙ ap (λ (l : List LineView). chart_lines l p) c.lines.ensures in
    let b = c.events_of-there.ensures.events ∙ ap (λ (l : List LineView). chart_lines l q) c.lines-2.ensures ∙ ap (chart_lines r.there.now) c.other_of-other.ensures in
    record {
      instance = refl;
      other = c.other_of-other.ensures;
      differences = c.in_ok-differences.ensures;
      only_here = only_so r.others.now c.events_of-here.result.now c.events_of-there.result.now (chart_lines r.here.now p) (chart_lines r.there.now (other_of r.others.now p)) c.in_ok-found.found.items c.as_slice-2.result.now c.in_ok-only_here.only_here.items c.in_ok-found.ensures.matches c.in_ok-found.ensures.whole a b c.as_slice-2.ensures.value c.in_ok-only_here.ensures;
      only_there = only_so r.back.now c.events_of-there.result.now c.events_of-here.result.now (chart_lines r.there.now (other_of r.others.now p)) (chart_lines r.here.now p) c.in_ok-found_there.found_there.items c.as_slice-3.result.now c.in_ok-only_there.only_there.items c.in_ok-found_there.ensures.matches c.in_ok-found_there.ensures.whole b a c.as_slice-3.ensures.value c.in_ok-only_there.ensures;
    }
