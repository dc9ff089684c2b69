use Rattle.fault_places.proofs.ChartPartnerCarets.{unknown_caret}
use Rattle.fault_places.proofs.laws.chart_partner_caret_law.Goals as goal

pub returns : goal.returns
returns c = unknown_caret
