-- Which event of another run of the same programs corresponds to an event of a chart (this project's own). It is
-- identified by its end of a lane and its turn there, as ITU-T Z.120 identifies messages by their output and input.
use Rattle.std.specs.Prelude.{ℕ, ◌+◌, ◌-◌, ◌==◌, Bool, List, [], ◌∷◌, take, count_by, Option, None, Some, option_map, if◌then◌else◌}
use Rattle.chart.specs.declared.event.Event.{Event}
use Rattle.chart.specs.declared.event.Event.TheVariants.{Send, Receive}
use Rattle.chart.specs.declared.instance.EventNo.{EventNo}
use Rattle.chart.specs.Charts.{LineView, chart_event, chart_lines}
use Rattle.chart.specs.Events.{is_send_to, is_receive_from}
use Rattle.closure.specs.Faults.{place_of}

-- both are at the same end of one lane: sends to one instance, or receives from one instance
abbrev pub is_like : Event → Event → Bool
is_like (Send to name) other = is_send_to to other
is_like (Receive from name region) other = is_receive_from from other

-- the number of the events that are like this one
abbrev pub turn_of : List Event → Event → ℕ
turn_of line event = count_by (is_like event) line

-- the number of the n-th event of a line that is like this one; the first event of the line has the number i
abbrev pub nth : Event → ℕ → ℕ → List Event → Option ℕ
nth event n i [] = None
nth event n i (m ∷ line) =
    if is_like event m then (if n == 1 then Some i else nth event (n - 1) (i + 1) line) else nth event n (i + 1) line

-- the number, on the other line, of the event whose turn is that of the event with this number here
abbrev pub nth_on : List Event → List Event → Event → ℕ → Option ℕ
nth_on here there event index = nth event (turn_of (take index here) event) 1 there

abbrev pub counterpart_of : EventNo → List Event → List Event → Option Event → Option EventNo
counterpart_of e here there None = None
counterpart_of e here there (Some event) =
    option_map (λ index. record { instance = e.instance; index = index }) (nth_on here there event e.index)

-- the counterpart of an event in another chart. It is on the same line, at the same end of the same lane, and has the
-- same turn there
abbrev pub counterpart : List LineView → List LineView → EventNo → Option EventNo
counterpart lines others e =
    counterpart_of e (chart_lines lines e.instance) (chart_lines others e.instance) (chart_event (chart_lines lines) (place_of e))
