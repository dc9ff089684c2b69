use Rattle.picture_laws.proofs.WitnessLemmas.{witness_law}
use Rattle.picture_laws.proofs.laws.witness_law.Goals as goal

pub returns : goal.returns
returns c = witness_law
