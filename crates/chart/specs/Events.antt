-- The events of a line (ITU-T Z.120), and the coregions along it (this project's profile, after ITU-T Z.120).
use Rattle.std.specs.Prelude.{◌≡◌, ℕ, zero, suc, ◌+◌, ◌<◌, max, Bool, true, false, not, ◌&&◌, ◌==◌, List, [], ◌∷◌, take, slice_get, Option, None, Some, count_by, ◌⊎◌}
use Rattle.chart.specs.Words.{Instance, Name}
use Rattle.chart.specs.declared.event.Event.{Event}
use Rattle.chart.specs.declared.event.Event.TheVariants.{Send, Receive}

-- Tests on an event (ITU-T Z.120: message output and message input events).

-- it sends to q
abbrev pub is_send_to : Instance → Event → Bool
is_send_to q (Send to name) = to == q
is_send_to q (Receive from name region) = false

-- it is a receive
abbrev pub is_receive : Event → Bool
is_receive (Send to name) = false
is_receive (Receive from name region) = true

-- it receives from q
abbrev pub is_receive_from : Instance → Event → Bool
is_receive_from q (Send to name) = false
is_receive_from q (Receive from name region) = from == q

-- the instance at the other end of the message
abbrev pub partner_of : Event → Instance
partner_of (Send to name) = to
partner_of (Receive from name region) = from

-- the name of the message
abbrev pub name_of : Event → Name
name_of (Send to name) = name
name_of (Receive from name region) = name

-- the coregion that it is in, from 1, or 0 outside of a coregion (this project's profile: only receives are in
-- coregions)
abbrev pub region_of : Event → ℕ
region_of (Send to name) = 0
region_of (Receive from name region) = region

-- it is in the coregion c; no event is in 0
abbrev pub is_in : ℕ → Event → Bool
is_in c m = region_of m == c && not (c == 0)

-- Events, made from their parts.
abbrev pub send_event : Instance → Name → Event
send_event to name = Send to name

abbrev pub receive_event : Instance → Name → ℕ → Event
receive_event from name region = Receive from name region

-- Places on a line.

-- the i-th element, from 1
abbrev pub ith : {X : Type 0} → List X → ℕ → Option X
ith xs zero = None
ith xs (suc i) = slice_get xs i

-- how many of the first n events pass the test
abbrev pub tally : (Event → Bool) → List Event → ℕ → ℕ
tally test line n = count_by test (take n line)

-- Coregions along a line (this project's profile, after the concurrent regions of ITU-T Z.120).

-- the greatest number of a coregion, or 0 if there is none
abbrev pub greatest_region : List Event → ℕ
greatest_region [] = 0
greatest_region (m ∷ line) = max (region_of m) (greatest_region line)

-- the coregion of the last event
abbrev pub last_region : List Event → ℕ
last_region [] = 0
last_region (m ∷ []) = region_of m
last_region (m ∷ n ∷ line) = last_region (n ∷ line)

-- the next event of the line may be in c: it is outside of a coregion, in one that begins here, or in that of the last
-- event
abbrev pub MayHaveRegion : List Event → ℕ → Type 0
MayHaveRegion line c = (c ≡ 0) ⊎ (c ≡ greatest_region line + 1)
    ⊎ ((0 < c) × (c ≡ greatest_region line) × (c ≡ last_region line))

-- each event's coregion is one that it may have
abbrev pub HasRegionsInOrder : List Event → Type 0
HasRegionsInOrder line = (i : ℕ) (m : Event) → slice_get line i ≡ Some m → MayHaveRegion (take i line) (region_of m)
