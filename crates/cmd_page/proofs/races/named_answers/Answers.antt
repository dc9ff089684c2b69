use Rattle.std.proofs.Common.{refl}
use Rattle.cmd_page.proofs.races.named_answers.Goals as goal

pub returns : goal.returns
returns c = (_, record { file = refl; called = refl; instance = refl; line = refl; name = c.requires.name; first = refl; second = refl; earlier = refl; last = c.last_of.ensures; receive = refl; rows = refl }, c.in_ok-answers.ensures)
