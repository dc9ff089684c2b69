use Rattle.std.proofs.Common.{◌≡◌, length}
use Rattle.diagram_join.specs.Moves.{with_within}
use Rattle.diagram_join.proofs.moves.leave_out_within.Given as goal

abbrev pub invariant-messages : goal.invariant-messages
invariant-messages l = with_within l.left_out.items l.rest ≡ with_within l.fn.left_out.items l.messages

abbrev pub decreases-messages : goal.decreases-messages
decreases-messages l = length l.rest
