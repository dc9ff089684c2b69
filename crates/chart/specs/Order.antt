-- The enforced order, and the races that a receive reports (after Alur, Holzmann and Peled 1996; which pairs are
-- enforced is this project's profile).
use Rattle.std.specs.Prelude.{◌≡◌, ℕ, ◌<◌, ◌≤◌, ◌↔◌, false, List, Option, None, Some, AllPairs, Contains}
use Rattle.chart.specs.Words.{Indices}
use Rattle.chart.specs.declared.event.Event.{Event}
use Rattle.chart.specs.Events.{is_receive_from, is_in, region_of, ith}
use Rattle.chart.specs.Charts.{Chart, Place, at, chart_event, IsSendTo, IsReceiveFrom, BelongsTo}

-- e is earlier than f on one line
pub record IsEarlier (e f : Place) : Type 0 where
  pub line : e.instance ≡ f.instance
  pub begun : 1 ≤ e.index
  pub less : e.index < f.index

-- what the lanes enforce directly: a send before its receive; any earlier event of a line before a later send of it; an
-- earlier receive of a line before a later one from the same sender
pub data Direct (c : Chart) (e f : Place) : Type 0 where
  message : BelongsTo c e f → Direct c e f
  to_send : (q : ℕ) → IsEarlier e f → IsSendTo c q f → Direct c e f
  same_sender : (q : ℕ) → IsEarlier e f → IsReceiveFrom c q e → IsReceiveFrom c q f → Direct c e f

-- enforced before: the least transitive relation that has all direct steps (elsewhere called happens-before; here it
-- holds in all runs of these events, not only in one)
pub data Before (c : Chart) : Place → Place → Type 0 where
  direct : {e f : Place} → Direct c e f → Before c e f
  through : {e d f : Place} → Before c e d → Before c d f → Before c e f

-- some event is before itself
abbrev pub IsCyclic : Chart → Type 0
IsCyclic c = (e : Place) × Before c e e

-- the coregion of an event, 0 if there is none
abbrev pub region_of_event : Option Event → ℕ
region_of_event None = 0
region_of_event (Some m) = region_of m

-- the report of the receive r: the earlier events of its line, outside of its coregion, that aren't before it, in
-- rising order
pub record IsReport (c : Chart) (r : Place) (report : Indices) : Type 0 where
  pub rising : AllPairs (λ i j. i < j) report
  pub exact : (j : ℕ) → Contains report j
      ↔ ((j < r.index)
      × ((m : Event) × (chart_event c (at r.instance j) ≡ Some m)
      × (is_in (region_of_event (chart_event c r)) m ≡ false))
      × (Before c (at r.instance j) r → ⊥))

-- the events of a line later than an entry that are neither receives from q nor in the coregion, in rising order
pub record AreLineRaces (line : List Event) (entry q region : ℕ) (races : Indices) : Type 0 where
  pub rising : AllPairs (λ i j. i < j) races
  pub exact : (j : ℕ) → Contains races j
      ↔ ((entry < j) × ((m : Event) × (ith line j ≡ Some m) × (is_receive_from q m ≡ false) × (is_in region m ≡ false)))
