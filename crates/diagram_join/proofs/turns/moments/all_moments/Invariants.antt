use Rattle.std.proofs.Common.{◌≡◌, take}
use Rattle.std.specs.List.{flat_map}
use Rattle.diagram_join.specs.Turns.Turns.{moments_of}
use Rattle.diagram_join.proofs.turns.moments.all_moments.Given as goal

abbrev pub invariant-loop-message : goal.invariant-loop-message
invariant-loop-message l = l.moments.items ≡ flat_map (moments_of l.messages) (take l.message-index l.messages)
