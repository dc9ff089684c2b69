use Rattle.chart.specs.Charts.{chart_lines}
use Rattle.closure.specs.Searches.{IsKnowledge}
use Rattle.closure.proofs.RowLemmas.{AreRows-push}
use Rattle.closure.proofs.knowing.knowledge.Goals as goal

pub loop-line-preserved : goal.loop-line-preserved
loop-line-preserved c = rw c.in_ok-push.ensures.items (AreRows-push (IsKnowledge (chart_lines c.args.linked.now)) (chart_lines c.args.linked.now) c.loop-line.line c.loop-line.known.items c.in_ok-row.row c.loop-line.invariant c.in_ok-row.ensures)
