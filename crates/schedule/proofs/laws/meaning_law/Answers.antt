use Rattle.schedule.proofs.Legal.{legal}
use Rattle.schedule.proofs.laws.meaning_law.Goals as goal

pub returns : goal.returns
returns c = legal
