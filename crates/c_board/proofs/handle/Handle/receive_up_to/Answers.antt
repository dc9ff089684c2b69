use Rattle.c_board.proofs.OverPosts.{if_found}
use Rattle.c_board.proofs.handle.Handle.receive_up_to.Goals as goal

pub returns : goal.returns
returns c = rw c.in-Some.ensures.value (c.receive_up_to.new.self, if_found c.in-Some.is (c.post_mut.follows.holds c.receive_up_to.new.self), c.receive_up_to.ensures)
