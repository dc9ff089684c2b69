use Rattle.fault_places.proofs.ChartCarets.{instance_caret}
use Rattle.fault_places.proofs.laws.chart_instance_caret_law.Goals as goal

pub returns : goal.returns
returns c = instance_caret
