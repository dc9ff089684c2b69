use Rattle.std.proofs.Common.{◌≡◌, take}
use Rattle.diagram_join.proofs.instances.listed.Given as goal

abbrev pub invariant-loop-place : goal.invariant-loop-place
invariant-loop-place l = l.listed.items ≡ take l.place l.names
