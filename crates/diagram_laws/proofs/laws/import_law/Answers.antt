use Rattle.diagram_laws.proofs.ImportLemmas.{import_law}
use Rattle.diagram_laws.proofs.laws.import_law.Goals as goal

pub returns : goal.returns
returns c = import_law
