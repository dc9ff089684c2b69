-- The enforced order of the chart of what is read of a log by clocks, and the clocks.
use Rattle.std.specs.Prelude.{◌≡◌, ℕ, ◌<◌, List, Option, Some, slice_get}
use Rattle.chart.specs.Charts.{Place, chart_lines}
use Rattle.chart.specs.Order.{Before}
use Rattle.log_chart.specs.Charts.ChartOrder.{IsLogged}
use Rattle.log_chart.specs.Charts.Building.{IsLogChart}
use Rattle.log_chart.specs.Cycles.Freeing.{HaveLanes}
use Rattle.log_chart.specs.Entries.{is_send}
use Rattle.log_chart.specs.declared.charts.building.LogChart.{LogChart}
use Rattle.log_chart.specs.declared.entry.Entry.{Entry}
use Rattle.log_lines.specs.Events.{LoggedEventView}
use Rattle.log_lines.specs.Names.Naming.{sends}
use Rattle.log_lines.specs.Reading.{ReadView}
use Rattle.log_formats.specs.Clocks.ReadOrder.{IsByClocks, AreReadInOrder}
use Rattle.log_formats.specs.Clocks.Saying.{moments_in, by_clocks}
use Rattle.log_formats.specs.Clocks.VectorTime.{IsVectorTime}

-- an entry is that of a read event: its instances have these words, and the messages of its stream this id
pub record IsEntryOf (word : ℕ → List ℕ) (id : ℕ → Option (List ℕ)) (e : Entry) (x : LoggedEventView) : Type 0 where
  pub host : x.event.host ≡ word e.host
  pub peer : x.event.peer ≡ word e.peer
  pub sends : is_send e.kind ≡ sends x.event.act
  pub id_is : x.event.id ≡ id e.stream

-- entries are those of read events, each of one, in their order; some of these may have none, as messages of a host to itself
pub record AreEntriesOf (read : List LoggedEventView) (log : List Entry) : Type 0 where
  pub origin : ℕ → ℕ
  pub word : ℕ → List ℕ
  pub id : ℕ → Option (List ℕ)
  pub order : (j k : ℕ) → j < k → origin j < origin k
  pub each : (k : ℕ) (e : Entry) → slice_get log k ≡ Some e
      → (x : LoggedEventView) × (slice_get read (origin k) ≡ Some x) × IsEntryOf word id e x

-- In the chart of a log that is read by clocks alone, and whose clocks are vector time, an event of the log is before another
-- one only if the clocks say so. Receives of the entries may be freed.
abbrev pub ClockChartLaw : Type 0
ClockChartLaw = (log : ReadView) → IsByClocks log → IsVectorTime (moments_in log) → (entries : List Entry)
    → (are : AreEntriesOf (by_clocks log).logged entries) → HaveLanes entries → (hosts : ℕ) (d : LogChart) → IsLogChart hosts entries d
    → (e f : Place) (a b : ℕ) → IsLogged hosts entries e a → IsLogged hosts entries f b → Before (chart_lines d.chart) e f
    → AreReadInOrder (moments_in log) (by_clocks log).logged (are.origin a) (are.origin b)
