use Rattle.fault_places.proofs.FormLemmas.{form_law}
use Rattle.fault_places.proofs.laws.form_law.Goals as goal

pub returns : goal.returns
returns c = form_law
