-- The earlier events of a receive that are shown (this project's profile).
use Rattle.std.specs.Prelude.{ℕ, Bool, false, true, List, filter, nat_lt, Option, None, Some, if◌then◌else◌}
use Rattle.chart.specs.declared.event.Event.{Event}
use Rattle.chart.specs.declared.event.Event.TheVariants.{Send, Receive}
use Rattle.chart.specs.declared.instance.EventNo.{EventNo}
use Rattle.chart.specs.Events.{ith}

-- this is a receive
abbrev pub receives : Option Event → Bool
receives None = false
receives (Some (Send to name)) = false
receives (Some (Receive from name region)) = true

-- an earlier event of the line is shown: any event, or with `only` only a receive
abbrev pub is_kept : List Event → Bool → EventNo → Bool
is_kept events only e = if only then receives (ith events e.index) else true

-- the earlier events that are shown
abbrev pub kept_events : List Event → Bool → List EventNo → List EventNo
kept_events events only earlier = filter (is_kept events only) earlier

-- the number of an event is above this one
abbrev pub is_later : ℕ → EventNo → Bool
is_later passed e = nat_lt passed e.index

-- the events whose numbers are above this one
abbrev pub later_than : ℕ → List EventNo → List EventNo
later_than passed events = filter (is_later passed) events

-- an earlier event is shown, if events up to a number aren't
abbrev pub is_kept_after : List Event → Bool → ℕ → EventNo → Bool
is_kept_after events only passed e = if is_later passed e then is_kept events only e else false
