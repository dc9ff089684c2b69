-- Which sends of a line handle a receive, if an instance finishes what a message makes it do before it receives again.
-- This is run to completion, as the state machines of UML have it. That the places of sends decide it is this project's
-- profile.
use Rattle.std.specs.Prelude.{◌≡◌, ℕ, ◌<◌, Bool, true, false, ◌||◌, List, Some}
use Rattle.chart.specs.declared.event.Event.{Event}
use Rattle.chart.specs.declared.event.Event.TheVariants.{Send, Receive}
use Rattle.chart.specs.Events.{ith, is_receive_from, is_in}
use Rattle.chart.specs.Order.{region_of_event}

-- it sends
abbrev pub is_send : Event → Bool
is_send (Send to name) = true
is_send (Receive from name region) = false

-- it may be between a receive of this coregion and the sends that handle this receive: it is a send, or another receive
-- of the coregion
abbrev pub may_follow : ℕ → Event → Bool
may_follow region m = is_send m || is_in region m

-- the event at d of the line is a receive
abbrev pub IsReceiveAt : List Event → ℕ → Type 0
IsReceiveAt line d = (q : ℕ) × (m : Event) × (ith line d ≡ Some m) × (is_receive_from q m ≡ true)

-- the event at s of the line is a send
abbrev pub IsSendAt : List Event → ℕ → Type 0
IsSendAt line s = (m : Event) × (ith line s ≡ Some m) × (is_send m ≡ true)

-- the send at s handles the receive at d of the line, maybe with others: there are only sends between the two, or
-- between the rest of the receive's coregion and the send
pub record IsHandled (line : List Event) (d s : ℕ) : Type 0 where
  pub less : d < s
  pub received : IsReceiveAt line d
  pub sent : IsSendAt line s
  pub between : (j : ℕ) (m : Event) → d < j → j < s → ith line j ≡ Some m
      → may_follow (region_of_event (ith line d)) m ≡ true
