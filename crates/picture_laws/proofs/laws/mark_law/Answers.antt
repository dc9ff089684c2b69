use Rattle.picture_laws.proofs.MarkLemmas.{mark_law}
use Rattle.picture_laws.proofs.laws.mark_law.Goals as goal

pub returns : goal.returns
returns c = mark_law
