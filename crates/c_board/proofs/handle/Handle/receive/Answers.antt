use Rattle.c_board.proofs.OverPosts.{if_found}
use Rattle.c_board.proofs.handle.Handle.receive.Goals as goal

pub returns-clause-answer : goal.returns-clause-answer
returns-clause-answer c = rw c.in-Some.ensures.value (c.receive.new.self, if_found c.in-Some.is (c.post_mut.follows.holds c.receive.new.self), c.receive.ensures.answer)
