use Rattle.texts.proofs.Writes.{kept_then}
use Rattle.texts.proofs.retrying.write_some.Goals as goal

pub returns-in-Ok-clause-bytes : goal.returns-in-Ok-clause-bytes
returns-in-Ok-clause-bytes g c = kept_then _ _ _ _ c.loop.invariant c.in-Ok.ensures.bytes
