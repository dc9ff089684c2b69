use Rattle.std.proofs.Common.{sym, subst}
use Rattle.chart.specs.Charts.{IsChart}
use Rattle.log_chart.proofs.charts.building.chart_of.Goals as goal

pub new-requires : goal.new-requires
new-requires c = (subst IsChart (sym c.in_ok-lines_of.ensures) c.requires.chart).numbered
