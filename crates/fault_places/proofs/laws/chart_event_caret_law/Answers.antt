use Rattle.fault_places.proofs.ChartCarets.{event_caret}
use Rattle.fault_places.proofs.laws.chart_event_caret_law.Goals as goal

pub returns : goal.returns
returns c = event_caret
