-- How the events of a line are passed, from its end backwards, in search of races (Alur, Holzmann and Peled 1996; which
-- events are no races: this project's profile).
use Rattle.std.specs.Prelude.{◌≡◌, ℕ, ◌<◌, ◌≤◌, ◌↔◌, ◌⊎◌, true, false, List, length, take, map, All, AllPairs, Contains, Some}
use Rattle.chart.specs.Words.{Indices}
use Rattle.chart.specs.declared.event.Event.{Event}
use Rattle.online_races.specs.declared.Stretch.{Stretch}
use Rattle.online_races.specs.declared.Stretch.TheVariants.{Passed, Races}
use Rattle.chart.specs.declared.instance.EventNo.{EventNo}
use Rattle.chart.specs.declared.line.TheConstants.{MAX_EVENTS}
use Rattle.chart.specs.Charts.{LineView}
use Rattle.chart.specs.Events.{ith, is_receive_from, is_in}

-- the event at j is neither a receive from q nor in the region
abbrev pub IsCandidate : List Event → ℕ → ℕ → ℕ → Type 0
IsCandidate line q region j = (m : Event) × (ith line j ≡ Some m) × (is_receive_from q m ≡ false) × (is_in region m ≡ false)

-- each event after the first `start` ones, up to the last, is a receive from q or in the region
pub record ArePassed (line : List Event) (start last q region : ℕ) : Type 0 where
  pub less : start < last
  pub each : (j : ℕ) (m : Event) → start < j → j ≤ last → ith line j ≡ Some m
      → (is_receive_from q m ≡ true) ⊎ (is_in region m ≡ true)

-- each event after the first `start` ones, up to the last, is neither
pub record AreRaces (line : List Event) (start last q region : ℕ) : Type 0 where
  pub less : start < last
  pub each : (j : ℕ) → start < j → j ≤ last → IsCandidate line q region j

-- the kind of the neighbouring events that end at index
abbrev pub IsStretch : List Event → ℕ → ℕ → ℕ → Stretch → Type 0
IsStretch line q region index (Passed start) = ArePassed line start index q region
IsStretch line q region index (Races start) = AreRaces line start index q region

-- the races later than the entry among the events after the first `start` ones, in rising order
pub record AreFound (line : List Event) (start entry q region : ℕ) (races : Indices) : Type 0 where
  pub rising : AllPairs (λ i j. i < j) races
  pub exact : (j : ℕ) → Contains races j ↔ ((start < j) × (entry < j) × IsCandidate line q region j)

-- the state of the search among the first events of a line: where it is, and what it found
pub record HasFound (line : LineView) (end index entry q region : ℕ) (found : List EventNo) : Type 0 where
  pub within : index ≤ end
  pub inside : end ≤ length line.events
  pub short : length line.events ≤ MAX_EVENTS
  pub races : AreFound (take end line.events) index entry q region (map (λ race. race.index) found)
  pub own : All (λ race. race.instance ≡ line.instance) found
