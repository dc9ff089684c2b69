use Rattle.fault_places.proofs.CapacityCarets.{capacity_caret}
use Rattle.fault_places.proofs.laws.capacity_caret_law.Goals as goal

pub returns : goal.returns
returns c = capacity_caret
