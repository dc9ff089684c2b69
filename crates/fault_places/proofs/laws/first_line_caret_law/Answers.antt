use Rattle.fault_places.proofs.FirstLineCarets.{first_line_caret}
use Rattle.fault_places.proofs.laws.first_line_caret_law.Goals as goal

pub returns : goal.returns
returns c = first_line_caret
