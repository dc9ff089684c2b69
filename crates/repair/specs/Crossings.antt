-- Which events of a line a send is before (over the order of Alur, Holzmann and Peled 1996, in this project's profile).
use Rattle.std.specs.Prelude.{◌≡◌, ℕ, ◌<◌, ◌≤◌, ◌↔◌, Bool, IsTrue, true, false, List, Some}
use Rattle.chart.specs.declared.event.Event.{Event}
use Rattle.chart.specs.Events.{ith}
use Rattle.chart.specs.Charts.{Chart, Place, at, BelongsTo}
use Rattle.chart.specs.Order.{Before}
use Rattle.chart.specs.Knowing.{IsUpTo}

-- none of the events behind the first `low`, up to that of number `high`, passes
abbrev pub HasNoneIn : (Event → Bool) → List Event → ℕ → ℕ → Type 0
HasNoneIn test line low high = (i : ℕ) (m : Event) → low < i → i ≤ high → ith line i ≡ Some m → test m ≡ false

-- the one of this number passes, and none later
pub record IsLastIn (test : Event → Bool) (line : List Event) (low high index : ℕ) : Type 0 where
  pub above : low < index
  pub up_to : index ≤ high
  pub passes : (m : Event) × (ith line index ≡ Some m) × (test m ≡ true)
  pub last : HasNoneIn test line index high

-- the receive r is of s, or of a send after it
abbrev pub IsHeardAt : Chart → Place → Place → Type 0
IsHeardAt c s r = (t : Place) × BelongsTo c t r × IsUpTo c t s

-- the receive has a send, and this says whether it is so
abbrev pub InformsHeard : Chart → Place → Place → Bool → Type 0
InformsHeard c s r heard = ((t : Place) × BelongsTo c t r) × (IsTrue heard ↔ IsHeardAt c s r)

-- of the events of p's line behind the first `low`, up to that of number `high`, a receive from q is so
abbrev pub IsHeardFrom : Chart → Place → ℕ → ℕ → ℕ → ℕ → Type 0
IsHeardFrom c s p low high q = (i : ℕ) × (t : Place) × (low < i) × (i ≤ high) × (t.instance ≡ q)
    × BelongsTo c t (at p i) × IsUpTo c t s

-- s is before none of the first k events of p's line
abbrev pub IsBeforeNone : Chart → Place → ℕ → ℕ → Type 0
IsBeforeNone c s p k = (i : ℕ) → i ≤ k → Before c s (at p i) → ⊥

-- s is before this event of p's line, and before none above it
abbrev pub IsFirstAfter : Chart → Place → ℕ → ℕ → Type 0
IsFirstAfter c s p i = Before c s (at p i) × ((j : ℕ) → j < i → Before c s (at p j) → ⊥)
