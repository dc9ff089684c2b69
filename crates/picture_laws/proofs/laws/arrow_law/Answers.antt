use Rattle.picture_laws.proofs.ArrowLemmas.{arrow_law}
use Rattle.picture_laws.proofs.laws.arrow_law.Goals as goal

pub returns : goal.returns
returns c = arrow_law
