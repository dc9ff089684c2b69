use Rattle.chart_layout.specs.Ends.{IsPart}
use Rattle.chart_layout.proofs.ends.add_line.Given as goal

abbrev pub invariant-loop-index : goal.invariant-loop-index
invariant-loop-index l = IsPart l.closure l.lines l.line l.index
