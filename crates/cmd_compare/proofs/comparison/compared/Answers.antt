use Rattle.std.proofs.Common.{subst}
use Rattle.chart.specs.Charts.{chart_lines}
use Rattle.cmd_compare.specs.Comparing.{IsCompared}
use Rattle.cmd_compare.proofs.DifferenceLemmas.{AreCompared-push}
use Rattle.cmd_compare.proofs.comparison.compared.Goals as goal

pub loop-place-preserved : goal.loop-place-preserved
loop-place-preserved c =
    let r = c.args.recordings.now in
    rw c.in_ok-push.ensures.items (AreCompared-push r.others.now r.back.now (chart_lines r.here.now) (chart_lines r.there.now) c.loop-place.place c.loop-place.lines.items c.in_ok-compare_line.field-0 c.loop-place.invariant
    (subst (λ p. IsCompared r.others.now r.back.now (chart_lines r.here.now) (chart_lines r.there.now) p c.in_ok-compare_line.field-0) c.at_place.ensures c.in_ok-compare_line.ensures))
