use Rattle.diagram_laws.proofs.HistoryTurns.{history_run}
use Rattle.diagram_laws.proofs.laws.history_turns_law.Goals as goal

pub returns : goal.returns
returns c = history_run
