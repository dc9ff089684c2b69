use Rattle.std.proofs.Common.{take}
use Rattle.diagram_join.specs.Turns.Sends.{AreSends}
use Rattle.diagram_join.proofs.turns.sends.Sends.of.Given as goal

abbrev pub invariant-loop-message : goal.invariant-loop-message
invariant-loop-message l = AreSends l.spots.entries (take l.message-index l.messages)
