-- The messages of a line's events, by the instance at their other end (ITU-T Z.120).
use Rattle.std.specs.Prelude.{ℕ, List, map, filter}
use Rattle.chart.specs.declared.event.Event.{Event}
use Rattle.chart.specs.Events.{is_send_to, is_receive_from, name_of}

-- the names of the messages that the line's events send to p, from the top
abbrev pub names_sent : ℕ → List Event → List (List ℕ)
names_sent p line = map name_of (filter (is_send_to p) line)

-- the names of the messages that they receive from q, from the top
abbrev pub names_received : ℕ → List Event → List (List ℕ)
names_received q line = map name_of (filter (is_receive_from q) line)
