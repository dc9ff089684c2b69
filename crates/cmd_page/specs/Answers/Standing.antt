-- The line of a chart's event in a schedule of a run with the same events.
use Rattle.std.specs.Prelude.{ℕ, ◌==◌, Bool, false, List, codes, take, count_by, Option, None, Some}
use Rattle.chart.specs.declared.event.Event.{Event}
use Rattle.chart.specs.declared.event.Event.TheVariants.{Send, Receive}
use Rattle.chart.specs.Events.{ith, partner_of}
use Rattle.texts.specs.Instances.{name_at}
use Rattle.cmd_page.specs.Text.EventRows.{row_of}

-- both are sends to one instance, or receives from one
abbrev pub is_alike : Event → Event → Bool
is_alike (Send to name) (Send other name') = to == other
is_alike (Receive from name region) (Receive other name' region') = from == other
is_alike (Send to name) (Receive from name' region) = false
is_alike (Receive from name region) (Send to name') = false

-- the number of events like this one
abbrev pub turn_of : List Event → Event → ℕ
turn_of events event = count_by (is_alike event) events

-- the verb of its command
unfoldable pub verb_of : Event → List ℕ
verb_of (Send to name) = codes "send"
verb_of (Receive from name region) = codes "receive"

-- the line of the turn-th such command
abbrev pub row_at : List (List ℕ) → ℕ → Event → ℕ → List ℕ → ℕ
row_at names p event turn text =
    row_of (record { instance = name_at names p; verb = verb_of event; partner = name_at names (partner_of event) }) turn text

abbrev pub row_for : List (List ℕ) → ℕ → List Event → ℕ → List ℕ → Option Event → ℕ
row_for names p events index text None = 0
row_for names p events index text (Some event) = row_at names p event (turn_of (take index events) event) text

-- the line, from 1, that makes the event with this number of p's line, or 0 if there is none
abbrev pub row_in : List (List ℕ) → ℕ → List Event → ℕ → List ℕ → ℕ
row_in names p events index text = row_for names p events index text (ith events index)
