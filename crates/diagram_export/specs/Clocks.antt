-- Vector time (Fidge 1988, Mattern 1989) along the rows of a layout. Each instance has a clock, and each message
-- carries that of its send. An instance counts its own events, and at a receive it takes the greater of each two
-- entries.
use Rattle.std.specs.Prelude.{◌≡◌, ℕ, zero, suc, List, [], ◌∷◌, ◌++◌, length, replicate, slice_set, slice_get, Option, None, Some, All}
use Rattle.std.specs.List.{flat_map}
use Rattle.chart.specs.declared.event.Event.{Event}
use Rattle.chart.specs.declared.event.Event.TheVariants.{Send, Receive}
use Rattle.chart.specs.declared.instance.EventNo.{EventNo}
use Rattle.clock.specs.Clocks.{with_entry, merged}
use Rattle.closure.specs.Faults.{place_of}
use Rattle.chart_layout.specs.declared.row.Row.{Row}
use Rattle.chart_layout.specs.declared.row.Row.TheVariants as rows
use Rattle.chart_layout.specs.Layouts.{row_of}
use Rattle.diagram_export.specs.declared.log.Stamped.{Stamped}
use Rattle.diagram_export.specs.Exports.{ExportView, event_of, end_of}

-- the clock of each instance, and for each row the clock of the message whose send is in it
pub record Times : Type 0 where
  pub clocks : List (List ℕ)
  pub carried : List (List ℕ)

-- an instance's clock, if there is the instance
abbrev pub clock_at : List (List ℕ) → ℕ → Option (List ℕ)
clock_at clocks zero = None
clock_at clocks (suc place) = slice_get clocks place

-- the clocks, with this one for an instance
abbrev pub with_clock : List (List ℕ) → ℕ → List ℕ → List (List ℕ)
with_clock clocks zero clock = clocks
with_clock clocks (suc place) clock = slice_set clocks place clock

-- the clock of the message whose send is in this row, if there is one
abbrev pub carried_in : List (List ℕ) → Option ℕ → Option (List ℕ)
carried_in carried None = None
carried_in carried (Some row) = slice_get carried row

abbrev pub carried_by : ExportView → List (List ℕ) → Option EventNo → Option (List ℕ)
carried_by v carried None = None
carried_by v carried (Some send) = carried_in carried (row_of v.rows (place_of send))

-- the clock, merged with that of a message, if there is one
abbrev pub taking : List ℕ → Option (List ℕ) → List ℕ
taking clock None = clock
taking clock (Some other) = merged clock other

-- the clock of an instance, merged with that of an event's message
abbrev pub heard : ExportView → Times → EventNo → Event → List ℕ → List ℕ
heard v times e (Send to name) clock = clock
heard v times e (Receive from name region) clock = taking clock (carried_by v times.carried (end_of v e))

-- an event's clock, from that of its instance before
abbrev pub stamp : ExportView → Times → EventNo → Event → List ℕ → List ℕ
stamp v times e m clock = with_entry (heard v times e m clock) e.instance e.index

-- the clocks of messages, with this one for the message whose send is in this row
abbrev pub with_carried : List (List ℕ) → Option ℕ → List ℕ → List (List ℕ)
with_carried carried None clock = carried
with_carried carried (Some row) clock = slice_set carried row clock

-- the clocks of messages after an event with this clock
abbrev pub sent_with : ExportView → List (List ℕ) → EventNo → List ℕ → Event → List (List ℕ)
sent_with v carried e clock (Send to name) = with_carried carried (row_of v.rows (place_of e)) clock
sent_with v carried e clock (Receive from name region) = carried

-- an event with its clock, if the chart has it
abbrev pub stamped : ExportView → Times → EventNo → Option Event → Option (List ℕ) → List Stamped
stamped v times e None clock = []
stamped v times e (Some m) None = []
stamped v times e (Some m) (Some clock) = record { event = e; clock = stamp v times e m clock } ∷ []

-- the clocks after an event
abbrev pub ticked : ExportView → Times → EventNo → Option Event → Option (List ℕ) → Times
ticked v times e None clock = times
ticked v times e (Some m) None = times
ticked v times e (Some m) (Some clock) = record {
  clocks = with_clock times.clocks e.instance (stamp v times e m clock);
  carried = sent_with v times.carried e (stamp v times e m clock) m;
}

abbrev pub entry : ExportView → Times → EventNo → List Stamped
entry v times e = stamped v times e (event_of v e) (clock_at times.clocks e.instance)

abbrev pub tick : ExportView → Times → EventNo → Times
tick v times e = ticked v times e (event_of v e) (clock_at times.clocks e.instance)

-- the events of a row
abbrev pub events_of : Row → List EventNo
events_of (rows.Message send receive) = send ∷ receive ∷ []
events_of (rows.Event e) = e ∷ []

-- events with their clocks, one after the other
abbrev pub entries_from : ExportView → Times → List EventNo → List Stamped
entries_from v times [] = []
entries_from v times (e ∷ events) = entry v times e ++ entries_from v (tick v times e) events

-- the clocks after events
abbrev pub ticks : ExportView → Times → List EventNo → Times
ticks v times [] = times
ticks v times (e ∷ events) = ticks v (tick v times e) events

-- the clocks before the first event
abbrev pub at_first : ExportView → Times
at_first v = record {
  clocks = replicate (length v.lines) (replicate (length v.lines) 0);
  carried = replicate (length v.rows) (replicate (length v.lines) 0);
}

-- the events of the rows with their clocks, from the top
abbrev pub log_of : ExportView → List Stamped
log_of v = entries_from v (at_first v) (flat_map events_of v.rows)

-- each of the clocks has n entries
abbrev pub AreClocks : ℕ → List (List ℕ) → Type 0
AreClocks n clocks = All (λ clock. length clock ≡ n) clocks
