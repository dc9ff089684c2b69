use Rattle.fault_places.proofs.ChartForms.{chart_form}
use Rattle.fault_places.proofs.laws.chart_form_law.Goals as goal

pub returns : goal.returns
returns c = chart_form
