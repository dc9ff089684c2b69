use Rattle.board.specs.Boards.{AreNewEnds}
use Rattle.board.proofs.opening.make_ends.Given as goal

abbrev pub invariant-loop-place : goal.invariant-loop-place
invariant-loop-place l = AreNewEnds l.instances l.place l.outgoing.items l.incoming.items
