use Rattle.picture_laws.proofs.MarkLemmas.{only_marks_law}
use Rattle.picture_laws.proofs.laws.only_marks_law.Goals as goal

pub returns : goal.returns
returns c = only_marks_law
