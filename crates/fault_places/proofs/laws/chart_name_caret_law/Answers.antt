use Rattle.fault_places.proofs.ChartCarets.{word_caret}
use Rattle.fault_places.proofs.laws.chart_name_caret_law.Goals as goal

pub returns : goal.returns
returns c = word_caret
