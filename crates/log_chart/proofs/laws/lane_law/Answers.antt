use Rattle.log_chart.proofs.LawLemmas.{lane_in_order}
use Rattle.log_chart.proofs.laws.lane_law.Goals as goal

pub returns : goal.returns
returns c = λ n from to log lanes q p low high. lane_in_order n from to log lanes q p low high
