-- Lists of the pairs of a line's events that are in the opposite order in another recording (this project's own).
use Rattle.std.specs.Prelude.{◌≡◌, ◌<◌, ◌⊎◌, ℕ, zero, suc, ◌+◌, ◌≤◌, max, nat_lt, List, [], ◌∷◌, ◌++◌, slice_get, slice_index_or, Option, None, Some, if◌then◌else◌}
use Rattle.chart.specs.declared.event.Event.{Event}
use Rattle.cmd_compare.specs.declared.pairs.Pair.{Pair}
use Rattle.cmd_compare.specs.declared.pairs.Difference.{Difference}
use Rattle.cmd_compare.specs.Verdicts.{verdict_at}

-- a pair is listed before another: its later event is earlier, or is the same and its earlier event is earlier
abbrev pub IsSooner : Pair → Pair → Type 0
IsSooner x y = (x.later < y.later) ⊎ ((x.later ≡ y.later) × (x.earlier < y.earlier))

-- the match of the event at a place, from 0
abbrev pub found_at : List (Option ℕ) → ℕ → Option ℕ
found_at found i = slice_index_or found i None

-- the pair of the i-th and the j-th event, by their matches, if they are in opposite orders
abbrev pub pair_by : ℕ → ℕ → Option ℕ → Option ℕ → List Pair
pair_by i j (Some k) (Some l) =
    if nat_lt l k then record { earlier = i; later = j; earlier_there = k; later_there = l } ∷ [] else []
pair_by i j a b = []

-- the pairs of the event at place j with the first n events
abbrev pub pairs_above : List (Option ℕ) → ℕ → ℕ → List Pair
pairs_above found j zero = []
pairs_above found j (suc i) = pairs_above found j i ++ pair_by (i + 1) (j + 1) (found_at found i) (found_at found j)

-- the pairs of the first n events
abbrev pub pairs_to : List (Option ℕ) → ℕ → List Pair
pairs_to found zero = []
pairs_to found (suc j) = pairs_to found j ++ pairs_above found j j

-- the greatest number so far, with one more number
abbrev pub greatest : ℕ → Option ℕ → ℕ
greatest highest None = highest
greatest highest (Some l) = max highest l

-- the matches of the first n events are at most this number
abbrev pub AreAtMost : ℕ → List (Option ℕ) → ℕ → Type 0
AreAtMost most found n = (i l : ℕ) → i < n → found_at found i ≡ Some l → l ≤ most

-- each number in `highest` is at least the matches up to its place
abbrev pub AreHighest : List (Option ℕ) → List ℕ → Type 0
AreHighest found highest = (i k : ℕ) → slice_get highest i ≡ Some k → AreAtMost k found (suc i)

-- the number of an event without a match
abbrev pub number_if : ℕ → Option ℕ → List ℕ
number_if i None = i ∷ []
number_if i (Some j) = []

-- the numbers of those of the first n events that have no match
abbrev pub unmatched_to : List (Option ℕ) → ℕ → List ℕ
unmatched_to found zero = []
unmatched_to found (suc i) = unmatched_to found i ++ number_if (i + 1) (found_at found i)

-- a pair of p's events with its verdicts
abbrev pub judged : ℕ → List Event → List ℕ → List Event → List ℕ → Pair → Difference
judged p here fronts there fronts_there pair = record {
  instance = p;
  pair = pair;
  here = verdict_at here fronts pair.earlier pair.later;
  there = verdict_at there fronts_there pair.later_there pair.earlier_there;
}
