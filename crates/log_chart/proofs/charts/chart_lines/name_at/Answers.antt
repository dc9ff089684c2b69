use Rattle.log_chart.proofs.ChartsLemmas.WalkLemmas.{name_here}
use Rattle.log_chart.proofs.charts.chart_lines.name_at.Goals as goal

pub returns : goal.returns
returns c = name_here c.args.log.now c.args.number _ c.requires
