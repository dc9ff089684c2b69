use Rattle.std.proofs.Common.{refl}
use Rattle.std.specs.Prelude.{None, Some}
use Rattle.mscview_requests.proofs.asking.answer_strictly.Goals as goal

pub returns-in-Some : goal.returns-in-Some
returns-in-Some g c = (c.refused_strictly.new.err, Some c.in-Some.status, c.in-Some.ensures, (refl, refl, refl))

pub returns-in-None : goal.returns-in-None
returns-in-None g c = (c.refused_strictly.new.err, None, c.in-None.ensures, c.answer_pair.ensures)
