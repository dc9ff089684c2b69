-- The differences between clocks: a clock is sent as what changed since the last one (Singhal and Kshemkalyani 1992).
-- That the changes rise by instance is this project's profile.
use Rattle.std.specs.Prelude.{◌≡◌, ◌≢◌, ◌≤◌, ◌↔◌, ℕ, List, [], ◌∷◌, map, length, Contains}
use Rattle.std.specs.List.Sorted.{IsStrictlyIncreasing}
use Rattle.chart.specs.Words.{Clock, Instance}
use Rattle.clock.specs.Clocks.{entry_of, with_entry}
use Rattle.clock.specs.declared.diff.Change.{Change}

-- the clock after the changes, one after another
abbrev pub apply_diff : Clock → List Change → Clock
apply_diff clock [] = clock
apply_diff clock (change ∷ rest) = apply_diff (with_entry clock change.instance change.entry) rest

-- an entry of the clock that differs from that of the base
pub record IsChange (base clock : Clock) (change : Change) : Type 0 where
  pub first : 1 ≤ change.instance
  pub last : change.instance ≤ length clock
  pub entry : change.entry ≡ entry_of clock change.instance
  pub differs : change.entry ≢ entry_of base change.instance

-- exactly the entries of the clock that differ from those of the base, in rising order of instances
pub record IsDiff (base clock : Clock) (diff : List Change) : Type 0 where
  pub rising : IsStrictlyIncreasing (map (λ change. change.instance) diff)
  pub exact : (change : Change) → Contains diff change ↔ IsChange base clock change

-- the clocks differ in no entry except that of one instance
abbrev pub AgreeBut : Instance → Clock → Clock → Type 0
AgreeBut p base clock = (q : ℕ) → q ≢ p → entry_of clock q ≡ entry_of base q
