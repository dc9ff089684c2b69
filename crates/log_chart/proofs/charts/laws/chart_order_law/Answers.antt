use Rattle.std.proofs.Common.{subst}
use Rattle.chart.specs.Charts.{chart_lines}
use Rattle.chart.specs.Order.{Before}
use Rattle.log_chart.proofs.ChartsLemmas.CycleLemmas.{logged_before}
use Rattle.log_chart.proofs.charts.laws.chart_order_law.Goals as goal

pub returns : goal.returns
returns c = λ hosts log d its lanes e f a b one other way.
    logged_before hosts lanes.0 lanes.1 log lanes.2 e f one.0 other.0 a b one.1 other.1 one.2 other.2 (subst (λ chart. Before (chart_lines chart) e f) its.chart way)
