use Rattle.board.specs.Meeting.{AreOfOneBoard}
use Rattle.test_board.proofs.tables.make_all.Given as goal

abbrev pub invariant-loop-by : goal.invariant-loop-by
invariant-loop-by g l = AreOfOneBoard l.posts
