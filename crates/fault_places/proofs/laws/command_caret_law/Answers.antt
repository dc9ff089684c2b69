use Rattle.fault_places.proofs.CommandCaretLemmas.{command_caret}
use Rattle.fault_places.proofs.laws.command_caret_law.Goals as goal

pub returns : goal.returns
returns c = command_caret
