use Rattle.board.specs.Meeting.{AreOfOneBoard}
use Rattle.test_hostile.proofs.moving_partners.stay_long.Given as goal

abbrev pub invariant-loop : goal.invariant-loop
invariant-loop g l = AreOfOneBoard l.posts
