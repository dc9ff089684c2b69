use Rattle.chart.specs.Charts.{chart_lines}
use Rattle.closure.specs.Rows.{AreRows}
use Rattle.closure.specs.Cycle.Fronts.{IsHeard}
use Rattle.closure.proofs.cycle.hearing.Hearing.of.Given as goal

abbrev pub invariant-loop-line : goal.invariant-loop-line
invariant-loop-line l = AreRows (IsHeard l.lines) (chart_lines l.lines) l.line l.fronts.items
