use Rattle.fault_places.proofs.ChartFormCarets.{form_caret}
use Rattle.fault_places.proofs.laws.chart_form_caret_law.Goals as goal

pub returns : goal.returns
returns c = form_caret
