use Rattle.c_board.proofs.OverPosts.{if_found}
use Rattle.c_board.proofs.handle.Handle.close.Goals as goal

pub returns : goal.returns
returns c = rw c.in-Some.ensures.value (c.close.new.self, if_found c.in-Some.is (c.post_mut.follows.holds c.close.new.self), c.close.ensures)
