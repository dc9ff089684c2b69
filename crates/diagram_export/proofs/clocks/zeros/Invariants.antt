use Rattle.std.proofs.Common.{◌≡◌, replicate}
use Rattle.diagram_export.proofs.clocks.zeros.Given as goal

abbrev pub invariant-loop : goal.invariant-loop
invariant-loop l = l.zeros.items ≡ replicate l.counter (replicate l.instances 0)
