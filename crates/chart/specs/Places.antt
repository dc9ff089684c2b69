-- Places of charts: where there is an event (ITU-T Z.120), and where the sends of a lane are. Lanes are first in, first
-- out, as Alur, Holzmann and Peled 1996 have them.
use Rattle.std.specs.Prelude.{◌≡◌, ℕ, ◌+◌, ◌≤◌, true, List, length, Some}
use Rattle.chart.specs.declared.event.Event.{Event}
use Rattle.chart.specs.Events.{ith, tally, is_send_to}
use Rattle.chart.specs.Charts.{Chart, Place}

-- the chart has an event at the place
abbrev pub IsEvent : Chart → Place → Type 0
IsEvent c e = (1 ≤ e.index) × (e.index ≤ length (c e.instance))

-- the event at j of the line is the send to q that has i earlier sends to q
abbrev pub IsSendAfter : List Event → ℕ → ℕ → ℕ → Type 0
IsSendAfter line q i j = ((m : Event) × (ith line j ≡ Some m) × (is_send_to q m ≡ true))
    × (tally (is_send_to q) line j ≡ i + 1)
