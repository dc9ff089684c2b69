use Rattle.std.proofs.Common.{refl}
use Rattle.mscview_requests.proofs.importing.skip_by.Goals as goal

pub returns-in_default : goal.returns-in_default
returns-in_default c = (refl, λ skip its. c.in_default.ensures its.events its.says)
