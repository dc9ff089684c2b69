use Rattle.schedule_threads.proofs.Turns.{turns-law}
use Rattle.schedule_threads.proofs.laws.turns_law.Goals as goal

pub returns : goal.returns
returns c = turns-law
