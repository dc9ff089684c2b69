use Rattle.std.proofs.Common.{◌≡◌, drop}
use Rattle.c_board.specs.Boards.BoardCopies.{messages_on}
use Rattle.c_board.proofs.boards.left.place_of_lane.Given as goal

abbrev pub invariant-loop-place : goal.invariant-loop-place
invariant-loop-place l = messages_on l.left l.from l.to ≡ messages_on (drop l.place l.left) l.from l.to
