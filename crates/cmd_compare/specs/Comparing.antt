-- The differences of two recordings of one system, line by line (this project's own).
use Rattle.std.specs.Prelude.{◌≡◌, ℕ, suc, ◌<◌, ◌≤◌, ◌↔◌, List, length, slice_get, None, Some, AllPairs, Contains}
use Rattle.chart.specs.declared.event.Event.{Event}
use Rattle.chart.specs.Charts.{Chart, at}
use Rattle.chart.specs.Names.{instance_of}
use Rattle.cmd_compare.specs.declared.comparison.LineComparison.{LineComparison}
use Rattle.cmd_compare.specs.declared.pairs.Difference.{Difference}
use Rattle.cmd_compare.specs.Ends.{other_of}
use Rattle.cmd_compare.specs.Matches.{AreOne}
use Rattle.cmd_compare.specs.Pairs.{IsSooner}
use Rattle.cmd_compare.specs.Verdicts.{IsVerdict}

-- for each instance, the number of the instance with its name in the other recording
pub record AreCounterparts (names others_names : List (List ℕ)) (others : List ℕ) : Type 0 where
  pub whole : length others ≡ length names
  pub each : (i p : ℕ) → slice_get others i ≡ Some p → (w : List ℕ) → slice_get names i ≡ Some w
      → instance_of others_names w ≡ Some p

-- the name of the first instance of one recording that the other recording lacks
pub record HasNoCounterpart (names others_names : List (List ℕ)) (name : List ℕ) : Type 0 where
  pub place : ℕ
  pub has : slice_get names place ≡ Some name
  pub none : instance_of others_names name ≡ None
  pub first : (i : ℕ) → i < place → (w : List ℕ) → slice_get names i ≡ Some w → (p : ℕ) × (instance_of others_names w ≡ Some p)

-- Two events of p's line that both recordings have, in opposite orders. `here` is the verdict on the earlier event
-- before the later one in c, and `there` the verdict on the opposite order in d.
pub record IsDifference (others : List ℕ) (c d : Chart) (p : ℕ) (x : Difference) : Type 0 where
  pub line : x.instance ≡ p
  pub less : x.pair.earlier < x.pair.later
  pub reordered : x.pair.later_there < x.pair.earlier_there
  pub earlier : AreOne others (c p) (d (other_of others p)) x.pair.earlier x.pair.earlier_there
  pub later : AreOne others (c p) (d (other_of others p)) x.pair.later x.pair.later_there
  pub here : IsVerdict c (at p x.pair.earlier) (at p x.pair.later) x.here
  pub there : IsVerdict d (at (other_of others p) x.pair.later_there) (at (other_of others p) x.pair.earlier_there)
      x.there

-- the list has exactly these pairs, each once, by their later event and then by their earlier one
pub record AreDifferences (others : List ℕ) (c d : Chart) (p : ℕ) (xs : List Difference) : Type 0 where
  pub rising : AllPairs (λ (x : Difference) (y : Difference). IsSooner x.pair y.pair) xs
  pub exact : (x : Difference) → Contains xs x ↔ IsDifference others c d p x

-- the i-th event of a line is one that the other line lacks
pub record IsOnlyHere (others : List ℕ) (a b : List Event) (i : ℕ) : Type 0 where
  pub begun : 1 ≤ i
  pub within : i ≤ length a
  pub only : (j : ℕ) → AreOne others a b i j → ⊥

-- the numbers are exactly those of the events that the other line lacks, rising
pub record AreOnlyHere (others : List ℕ) (a b : List Event) (numbers : List ℕ) : Type 0 where
  pub rising : AllPairs (λ i j. i < j) numbers
  pub exact : (i : ℕ) → Contains numbers i ↔ IsOnlyHere others a b i

-- the differences on p's line; `others` has the number of each instance in the other recording, and `back` has the
-- reverse
pub record IsCompared (others back : List ℕ) (c d : Chart) (p : ℕ) (line : LineComparison) : Type 0 where
  pub instance : line.instance ≡ p
  pub other : line.other ≡ other_of others p
  pub differences : AreDifferences others c d p line.differences.items
  pub only_here : AreOnlyHere others (c p) (d (other_of others p)) line.only_here.items
  pub only_there : AreOnlyHere back (d (other_of others p)) (c p) line.only_there.items

-- the differences on each of n lines
pub record AreCompared (others back : List ℕ) (c d : Chart) (n : ℕ) (lines : List LineComparison) : Type 0 where
  pub whole : length lines ≡ n
  pub each : (i : ℕ) (line : LineComparison) → slice_get lines i ≡ Some line → IsCompared others back c d (suc i) line
