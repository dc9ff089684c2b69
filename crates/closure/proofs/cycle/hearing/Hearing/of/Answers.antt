use Rattle.chart.specs.Charts.{chart_lines}
use Rattle.closure.proofs.RowLemmas.{AreRows-push}
use Rattle.closure.specs.Cycle.Fronts.{IsHeard}
use Rattle.closure.proofs.cycle.hearing.Hearing.of.Goals as goal

pub loop-line-preserved : goal.loop-line-preserved
loop-line-preserved c = rw c.in_ok-push.ensures.items (AreRows-push (IsHeard c.args.lines.now) (chart_lines c.args.lines.now) c.loop-line.line c.loop-line.fronts.items c.in_ok-heard_on.field-0 c.loop-line.invariant c.in_ok-heard_on.ensures)
