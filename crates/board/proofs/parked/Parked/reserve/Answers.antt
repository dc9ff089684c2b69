use Rattle.board.proofs.Rooms.{post_roomy}
use Rattle.board.proofs.parked.Parked.reserve.Goals as goal

pub invariant_of-self-2 : goal.invariant_of-self-2
invariant_of-self-2 c = rw c.in_ok-reserve.ensures.ok (post_roomy _ _ _ _ _ _ _ _ _ c.self.invariant)
