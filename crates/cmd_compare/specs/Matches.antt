-- The events of a line that another recording's line has too (this project's own). A message is identified by its lane
-- and its turn there, as ITU-T Z.120's messages are by their output and input.
use Rattle.std.specs.Prelude.{◌≡◌, ℕ, suc, ◌+◌, ◌≤◌, Bool, true, List, length, slice_get, Option, None, Some}
use Rattle.chart.specs.declared.event.Event.{Event}
use Rattle.chart.specs.Events.{name_of, ith, tally}
use Rattle.cmd_compare.specs.declared.lane_end.LaneEnd.{LaneEnd}
use Rattle.cmd_compare.specs.Ends.{end_of, is_at, end_there}

-- the event with this number passes the test
abbrev pub Passes : (Event → Bool) → List Event → ℕ → Type 0
Passes test line i = (m : Event) × (ith line i ≡ Some m) × (test m ≡ true)

-- among the events that pass the tests, the i-th event of one line has the same turn as the j-th of the other
pub record HaveOneTurn (f g : Event → Bool) (a b : List Event) (i j : ℕ) : Type 0 where
  pub here : Passes f a i
  pub there : Passes g b j
  pub turn : tally f a i ≡ tally g b j

-- events with the same turn have the same name, up to the n-th event of the first line
abbrev pub HaveOneName : (Event → Bool) → (Event → Bool) → List Event → List Event → ℕ → Type 0
HaveOneName f g a b n = (i j : ℕ) (m o : Event) → i ≤ n → HaveOneTurn f g a b i j → ith a i ≡ Some m
    → ith b j ≡ Some o → name_of m ≡ name_of o

-- the two have the same turn at the same end of a lane, and its messages up to them have the same names
abbrev pub AreOneAt : List ℕ → List Event → List Event → LaneEnd → ℕ → ℕ → Type 0
AreOneAt others a b end i j = HaveOneTurn (is_at end) (is_at (end_there others end)) a b i j
    × HaveOneName (is_at end) (is_at (end_there others end)) a b i

-- the i-th event of one line matches the j-th of the other
abbrev pub AreOne : List ℕ → List Event → List Event → ℕ → ℕ → Type 0
AreOne others a b i j = (m : Event) × (ith a i ≡ Some m) × AreOneAt others a b (end_of m) i j

-- the match of the i-th event: its number on the other line, or none if that line lacks it
abbrev pub IsMatch : List ℕ → List Event → List Event → ℕ → Option ℕ → Type 0
IsMatch others a b i None = (j : ℕ) → AreOne others a b i j → ⊥
IsMatch others a b i (Some j) = AreOne others a b i j

-- the matches of the first events, as many as the list has
abbrev pub AreMatches : List ℕ → List Event → List Event → List (Option ℕ) → Type 0
AreMatches others a b found = (i : ℕ) (x : Option ℕ) → slice_get found i ≡ Some x → IsMatch others a b (suc i) x

-- the last event that passes among the first n events
pub record IsLastBefore (test : Event → Bool) (line : List Event) (n index : ℕ) : Type 0 where
  pub within : index ≤ n
  pub passes : Passes test line index
  pub turn : tally test line index ≡ tally test line n

-- the next event that passes after the first n events
pub record IsNext (test : Event → Bool) (line : List Event) (n index : ℕ) : Type 0 where
  pub begun : 1 ≤ index
  pub within : index ≤ length line
  pub passes : Passes test line index
  pub turn : tally test line index ≡ tally test line n + 1

-- the first n events of one line correspond to the first `passed` of the other: as many pass there as here, with the
-- same names
pub record HasPassed (f g : Event → Bool) (a b : List Event) (n passed : ℕ) : Type 0 where
  pub within : passed ≤ length b
  pub turn : tally g b passed ≡ tally f a n
  pub named : HaveOneName f g a b n

-- if the event after the first n is at this end, the other line lacks it
abbrev pub IsUnmatched : List ℕ → List Event → List Event → LaneEnd → ℕ → Type 0
IsUnmatched others a b end n = (j : ℕ) → AreOneAt others a b end (suc n) j → ⊥
