use Rattle.board.specs.Meeting.{AreOfOneBoard}
use Rattle.test_board.proofs.tables.play_turns.Given as goal

abbrev pub invariant-loop : goal.invariant-loop
invariant-loop g l = AreOfOneBoard l.posts
