use Rattle.diagram_laws.proofs.TimeLemmas.{vector_time}
use Rattle.diagram_laws.proofs.laws.vector_time_law.Goals as goal

pub returns : goal.returns
returns c = vector_time
