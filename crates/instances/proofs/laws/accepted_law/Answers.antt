use Rattle.instances.proofs.Accepted.{gathered-law}
use Rattle.instances.proofs.laws.accepted_law.Goals as goal

pub returns : goal.returns
returns c = record { gathered = gathered-law; run = λ run whole. gathered-law whole.0 run.gathered whole.1 }
