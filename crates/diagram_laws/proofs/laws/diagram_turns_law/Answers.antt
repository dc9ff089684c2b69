use Rattle.diagram_laws.proofs.JoinedTurns.{diagram_run}
use Rattle.diagram_laws.proofs.laws.diagram_turns_law.Goals as goal

pub returns : goal.returns
returns c = diagram_run
