use Rattle.fault_places.proofs.EventLineLemmas.{line_law}
use Rattle.fault_places.proofs.laws.line_law.Goals as goal

pub returns : goal.returns
returns c = line_law
