use Rattle.std.proofs.Common.{◌≡◌, ◌++◌, suc, drop}
use Rattle.log_chart.specs.Charts.ChartLines.{chart_from}
use Rattle.log_chart.proofs.charts.chart_lines.lines_of.Given as goal

abbrev pub invariant-loop-place : goal.invariant-loop-place
invariant-loop-place l = l.made.items ++ chart_from l.log (suc l.place) (drop l.place l.lines) ≡ chart_from l.log 1 l.lines
