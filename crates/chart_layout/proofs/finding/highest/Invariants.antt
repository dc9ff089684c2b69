use Rattle.chart.specs.Charts.{chart_lines}
use Rattle.chart_layout.specs.Searching.{IsHighestOf}
use Rattle.chart_layout.proofs.finding.highest.Given as goal

abbrev pub invariant-loop-line : goal.invariant-loop-line
invariant-loop-line l = IsHighestOf (chart_lines l.closure) l.line l.layout l.best
