use Rattle.chart_layout.specs.Ends.{IsPart}
use Rattle.chart_layout.proofs.ends.Ends.of.Given as goal

abbrev pub invariant-loop-line : goal.invariant-loop-line
invariant-loop-line l = IsPart l.closure l.lines.items l.line 0
