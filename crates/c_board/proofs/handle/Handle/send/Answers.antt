use Rattle.c_board.proofs.OverPosts.{if_found}
use Rattle.c_board.proofs.handle.Handle.send.Goals as goal

pub returns : goal.returns
returns c = rw c.in-Some.ensures.value (c.send.new.self, if_found c.in-Some.is (c.post_mut.follows.holds c.send.new.self), c.send.ensures)
