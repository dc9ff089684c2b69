use Rattle.chart.specs.Charts.{chart_lines}
use Rattle.closure.specs.Rows.{AreRows}
use Rattle.closure.specs.Searches.{IsKnowledge}
use Rattle.closure.proofs.knowing.knowledge.Given as goal

abbrev pub invariant-loop-line : goal.invariant-loop-line
invariant-loop-line l = AreRows (IsKnowledge (chart_lines l.linked)) (chart_lines l.linked) l.line l.known.items
