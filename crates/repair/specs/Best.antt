-- What mending a race pair came to, and the best so far, as the code holds them (this project's own).
use Rattle.std.specs.Prelude.{◌≡◌, ℕ, List, length, Option, None, Some, nat_lt, if◌then◌else◌}
use Rattle.chart.specs.Charts.{LineView, chart_lines, IsPossible}
use Rattle.repair.specs.Counted.{CountedView}
use Rattle.repair.specs.Growing.{message_of}
use Rattle.repair.specs.Moves.{moved_counted}
use Rattle.repair.specs.declared.adding.MendedChart.{MendedChart}
use Rattle.repair.specs.declared.best.Tried.{Tried}
use Rattle.repair.specs.declared.pairs.RacePair.{RacePair}
use Rattle.repair.specs.Repairs.{ArePairs, Leaves, with_message, IsAdded, IsBestOf, HasNoneOf, IsBest, HasNone, AreTried}

-- so many race pairs of the chart count
abbrev pub HasPairs : CountedView → List LineView → ℕ → Type 0
HasPairs counted lines count = (pairs : List RacePair) × ArePairs counted lines pairs × (count ≡ length pairs)

-- the pair was mended by this message, in this chart, and in no other way with a message of this name
pub record IsTried (counted : CountedView) (lines : List LineView) (name : List ℕ) (pair : RacePair) (t : Tried) : Type 0 where
  pub pair_is : t.addition.pair ≡ pair
  pub added : IsAdded counted lines name t.addition t.left
  pub chart : t.chart ≡ with_message (message_of t.addition.message) lines
  pub counted_so : t.counted ≡ moved_counted (message_of t.addition.message) counted
  pub one : (k : ℕ) → Leaves counted lines name pair k → k ≡ t.left

-- fewer pairs than this are wanted
abbrev pub limit_of : Option Tried → ℕ → ℕ
limit_of None most = most
limit_of (Some t) most = t.left

-- the one of two that leaves fewer, the first where they leave as many
abbrev pub better : Option Tried → Option Tried → ℕ → Option Tried
better best None most = best
better best (Some t) most = if nat_lt t.left (limit_of best most) then Some t else best

-- the chart has the message, and the races that count are those of the chart with it
abbrev pub IsGrown : CountedView → List LineView → Tried → Type 0
IsGrown counted lines t = (t.chart ≡ with_message (message_of t.addition.message) lines)
    × (t.counted ≡ moved_counted (message_of t.addition.message) counted)

-- of the first so many pairs this is the best, if one is
abbrev pub IsBestSo : CountedView → List LineView → List ℕ → List RacePair → ℕ → Option Tried → Type 0
IsBestSo counted lines name pairs many None = HasNoneOf counted lines name pairs many
IsBestSo counted lines name pairs many (Some t) = IsBestOf counted lines name pairs many t.addition t.left
    × IsGrown counted lines t

-- of all
abbrev pub IsFound : CountedView → List LineView → Option Tried → Type 0
IsFound counted lines None = HasNone counted lines
IsFound counted lines (Some t) = IsBest counted lines t.addition t.left
    × IsGrown counted lines t

-- what was added to the chart within so many tries, what it made, and how many race pairs are left
pub record IsMendedChart (counted : CountedView) (limit : ℕ) (lines : List LineView) (m : MendedChart) : Type 0 where
  pub added : AreTried counted limit lines m.additions.items m.counted m.chart m.tried m.is_stopped
  pub possible : IsPossible (length m.chart) (chart_lines m.chart)
  pub whole : length m.chart ≡ length lines
  pub left : HasPairs m.counted m.chart m.left
