use Rattle.std.proofs.Common.{◌≡◌, None, replicate}
use Rattle.chart_layout.proofs.ends.LineEnds.unknown.Given as goal

abbrev pub invariant-loop : goal.invariant-loop
invariant-loop l = l.ends.items ≡ replicate l.counter None
