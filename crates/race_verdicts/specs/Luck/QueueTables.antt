-- Queues of the lines of each stream, for the crate's own functions. One table has the first line of each stream, and
-- the other one the next line of each line.
use Rattle.std.specs.Prelude.{◌≡◌, ℕ, ◌+◌, ◌<◌, ◌≤◌, ◌==◌, Bool, true, false, List, [], ◌∷◌, ◌++◌, length, Option, None, Some, slice_get, slice_index_or, if◌then◌else◌}
use Rattle.log_chart.specs.Entries.{is_send}
use Rattle.log_chart.specs.declared.matching.LogLine.{LogLine}
use Rattle.race_verdicts.specs.Luck.Arrivals.{waiting}
use Rattle.race_verdicts.specs.declared.recording.Arrival.{Arrival}

-- the queue from this entry on is the list; the numbers of its lines are rising and at least `low`, and all lines are
-- sends or all are receives
abbrev pub IsQueue : List LogLine → Bool → List (Option ℕ) → ℕ → Option ℕ → List LogLine → Type 0
IsQueue lines sends next low entry [] = entry ≡ None
IsQueue lines sends next low entry (x ∷ xs) =
    (entry ≡ Some x.number) × (slice_get lines x.number ≡ Some x) × (is_send x.entry.kind ≡ sends) × (low ≤ x.number) × (x.number < length next)
    × IsQueue lines sends next (x.number + 1) (slice_index_or next x.number None) xs

-- the queue is some list of lines that are all sends or all receives
pub record IsSomeQueue (next : List (Option ℕ)) (entry : Option ℕ) : Type 0 where
  pub lines : List LogLine
  pub sends : Bool
  pub list : List LogLine
  pub low : ℕ
  pub is : IsQueue lines sends next low entry list

-- the tables hold these lists
pub record AreQueues (lines : List LogLine) (sends : Bool) (first next : List (Option ℕ)) (low : ℕ) (lists : ℕ → List LogLine) : Type 0 where
  pub first_whole : length first ≡ length lines
  pub next_whole : length next ≡ length lines
  pub each : (c : ℕ) → IsQueue lines sends next low (slice_index_or first c None) (lists c)

-- the lists, with another list for one stream
abbrev pub with_list : (ℕ → List LogLine) → ℕ → List LogLine → ℕ → List LogLine
with_list lists c list d = if c == d then list else lists d

-- the number of the first line
abbrev pub first_number : List LogLine → Option ℕ
first_number [] = None
first_number (x ∷ xs) = Some x.number

-- the tables hold the messages of each stream that wait after i arrivals
pub record AreWaiting (lines : List LogLine) (arrivals : List Arrival) (i : ℕ) (received received_next left left_next : List (Option ℕ)) : Type 0 where
  pub received_lists : ℕ → List LogLine
  pub left_lists : ℕ → List LogLine
  pub received_are : AreQueues lines false received received_next 0 received_lists
  pub left_are : AreQueues lines true left left_next 0 left_lists
  pub both : (c : ℕ) → waiting lines arrivals i c ≡ received_lists c ++ left_lists c
