-- The enforced order of a log's chart, and the order of the log's lines: a line of a host before its later lines, and a send
-- before the receive that takes it (Lamport 1978).
use Rattle.std.specs.Prelude.{◌≡◌, ℕ, List, Some}
use Rattle.chart.specs.Charts.{Place, chart_lines}
use Rattle.chart.specs.Events.{ith}
use Rattle.chart.specs.Order.{Before}
use Rattle.log_chart.specs.Charts.Building.{IsLogChart}
use Rattle.log_chart.specs.Cycles.Freeing.{HaveLanes}
use Rattle.log_chart.specs.Cycles.Order.{Comes}
use Rattle.log_chart.specs.HostLines.{kept}
use Rattle.log_chart.specs.Laws.{line_of}
use Rattle.log_chart.specs.declared.charts.building.LogChart.{LogChart}
use Rattle.log_chart.specs.declared.entry.Entry.{Entry}
use Rattle.log_chart.specs.declared.item.Item.{Item}

-- the event at this place of the chart is that of the log's line with this number; an invented send is that of none
abbrev pub IsLogged : ℕ → List Entry → Place → ℕ → Type 0
IsLogged hosts log e k = (x : Item) × (ith (line_of hosts log e.instance) e.index ≡ Some x) × (x.line ≡ Some k)

-- in the chart of a log the event of a line is before that of another line only if the lines come in this order in the log:
-- invented sends put nothing before anything else
abbrev pub ChartOrderLaw : Type 0
ChartOrderLaw = (hosts : ℕ) (log : List Entry) (d : LogChart) → IsLogChart hosts log d → HaveLanes log → (e f : Place) (a b : ℕ)
    → IsLogged hosts log e a → IsLogged hosts log f b → Before (chart_lines d.chart) e f → Comes (kept log) a b
