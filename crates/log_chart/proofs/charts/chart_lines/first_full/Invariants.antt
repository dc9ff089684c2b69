use Rattle.std.proofs.Common.{◌≡◌, suc, drop}
use Rattle.log_chart.specs.Charts.ChartLines.{first_full}
use Rattle.log_chart.proofs.charts.chart_lines.first_full.Given as goal

abbrev pub invariant-loop-place : goal.invariant-loop-place
invariant-loop-place l = first_full (suc l.place) (drop l.place l.lines) ≡ first_full 1 l.lines
