use Rattle.std.proofs.Common.{◌≡◌, ◌++◌, drop, map}
use Rattle.log_chart.specs.Charts.ChartLines.{event_of}
use Rattle.log_chart.proofs.charts.chart_lines.line_of.Given as goal

abbrev pub invariant-loop-item : goal.invariant-loop-item
invariant-loop-item l = record {
  own : l.line.instance ≡ l.fn.host;
  so_far : l.line.events ++ map (event_of l.log) (drop l.item-index l.items) ≡ map (event_of l.log) l.items;
}
