use Rattle.std.proofs.Common.{ℕ, ◌<◌}
use Rattle.chart.specs.Charts.{chart_lines}
use Rattle.chart_layout.specs.Ways.{HasNoWay}
use Rattle.chart_layout.proofs.finding.row_by.Given as goal

abbrev pub invariant-loop-line : goal.invariant-loop-line
invariant-loop-line l = (p : ℕ) → p < l.line → HasNoWay (chart_lines l.closure) l.layout l.way p
