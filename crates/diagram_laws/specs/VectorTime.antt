-- Vector time (Fidge 1988, Mattern 1989): an event's clock has, for each instance, the number of the instance's events
-- that are the event itself or happened before it. The order is Lamport's (1978), along the lines as they are drawn.
use Rattle.std.specs.Prelude.{◌≡◌, ◌⊎◌, ◌↔◌, ℕ, ◌≤◌, List, length, slice_get, Some}
use Rattle.std.specs.List.{flat_map}
use Rattle.chart.specs.Charts.{Chart, Place, at, BelongsTo, chart_lines}
use Rattle.chart.specs.Order.{IsEarlier}
use Rattle.chart.specs.declared.instance.EventNo.{EventNo}
use Rattle.closure.specs.Faults.{place_of}
use Rattle.chart_layout.specs.Ends.{AreEnds}
use Rattle.chart_layout.specs.Layouts.{IsDrawing}
use Rattle.diagram_export.specs.Clocks.{events_of, log_of}
use Rattle.diagram_export.specs.Exports.{ExportView}
use Rattle.diagram_export.specs.LogText.{entry_in}
use Rattle.diagram_export.specs.declared.log.Stamped.{Stamped}

-- happened before: the least transitive relation in which each event of a line comes before the later ones, and each
-- send before its receive. Lanes enforce only a part of it (`Before` of `chart`)
pub data HappenedBefore (c : Chart) : Place → Place → Type 0 where
  earlier : {e f : Place} → IsEarlier e f → HappenedBefore c e f
  message : {e f : Place} → BelongsTo c e f → HappenedBefore c e f
  through : {e d f : Place} → HappenedBefore c e d → HappenedBefore c d f → HappenedBefore c e f

-- e is f, or happened before it
abbrev pub IsInPast : Chart → Place → Place → Type 0
IsInPast c e f = (e ≡ f) ⊎ HappenedBefore c e f

-- The clock is the vector time of the event at e: of each instance q, the events in the past of e are the first ones of
-- its line, as many as the entry of q says.
abbrev pub IsVectorTime : Chart → Place → List ℕ → Type 0
IsVectorTime c e clock = (q j : ℕ) → 1 ≤ j → (j ≤ entry_in clock q) ↔ IsInPast c (at q j) e

-- a log has each event that is drawn, from the top down, with its vector time
pub record HasVectorTimes (v : ExportView) : Type 0 where
  pub all : length (log_of v) ≡ length (flat_map events_of v.rows)
  pub each : (i : ℕ) (e : EventNo) → slice_get (flat_map events_of v.rows) i ≡ Some e
      → (x : Stamped) × (slice_get (log_of v) i ≡ Some x) × (x.event ≡ e)
      × IsVectorTime (chart_lines v.lines) (place_of e) x.clock

-- the log of a chart's export has vector times, if its rows draw the chart, and its table has the ends of its messages
abbrev pub VectorTimeLaw : Type 0
VectorTimeLaw = (v : ExportView) → IsDrawing v.lines v.rows → AreEnds (chart_lines v.lines) v.ends → HasVectorTimes v
