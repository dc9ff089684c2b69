use Rattle.line_recorder.proofs.Charted.{clock_of_send}
use Rattle.line_recorder.proofs.laws.clock_law.Goals as goal

pub returns : goal.returns
returns c = clock_of_send
