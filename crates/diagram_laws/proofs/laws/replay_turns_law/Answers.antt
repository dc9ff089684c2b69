use Rattle.diagram_laws.proofs.ReplayTurns.{replay_run}
use Rattle.diagram_laws.proofs.laws.replay_turns_law.Goals as goal

pub returns : goal.returns
returns c = replay_run
