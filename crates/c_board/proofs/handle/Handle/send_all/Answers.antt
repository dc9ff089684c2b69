use Rattle.c_board.proofs.OverPosts.{if_found}
use Rattle.c_board.proofs.handle.Handle.send_all.Goals as goal

pub returns : goal.returns
returns c = rw c.in-Some.ensures.value (c.send_all.new.self, if_found c.in-Some.is (c.post_mut.follows.holds c.send_all.new.self), c.send_all.ensures)
