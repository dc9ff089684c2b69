use Rattle.fault_places.proofs.CaretLemmas.{form_caret}
use Rattle.fault_places.proofs.laws.form_caret_law.Goals as goal

pub returns : goal.returns
returns c = form_caret
