-- Tables of the sends that lines take, for the crate's own functions. Each send of a lane is linked to the one before
-- it, and has a line by which both were taken.
use Rattle.std.specs.Prelude.{◌≡◌, ℕ, ◌<◌, ◌≤◌, max, true, List, length, Option, None, Some, slice_get, slice_index_or}
use Rattle.log_chart.specs.Entries.{is_send}
use Rattle.log_chart.specs.LaneTables.{LaneSends, AreLanes}
use Rattle.log_chart.specs.declared.matching.LogLine.{LogLine}
use Rattle.race_verdicts.specs.Luck.LineTables.{Takes, AreTakers}
use Rattle.race_verdicts.specs.Luck.Recorded.{IsLog}
use Rattle.race_verdicts.specs.Luck.Tables.{IsLast}

-- line o sends on the lane from q to p
pub record IsOnLane (lines : List LogLine) (q p o : ℕ) : Type 0 where
  pub line : LogLine
  pub is : slice_get lines o ≡ Some line
  pub sends : is_send line.entry.kind ≡ true
  pub sender : line.entry.host ≡ q
  pub receiver : line.entry.peer ≡ p

-- the same, and a line takes the message
pub record IsTakenOnLane (lines : List LogLine) (q p o : ℕ) : Type 0 where
  pub on : IsOnLane lines q p o
  pub taker : ℕ
  pub takes : Takes lines o taker

-- the table has, for each send, the last one before it on its lane that a line takes
pub record AreAbove (lines : List LogLine) (above : List (Option ℕ)) : Type 0 where
  pub whole : length above ≡ length lines
  pub each : (n q p : ℕ) → IsOnLane lines q p n → IsLast (IsTakenOnLane lines q p) n (slice_index_or above n None)

-- the last such send of each lane among the first i lines
pub record AreLastSends (lines : List LogLine) (i : ℕ) (table : List (Option ℕ)) : Type 0 where
  pub sends : LaneSends
  pub are : AreLanes table sends
  pub each : (q p : ℕ) → IsLast (IsTakenOnLane lines q p) i (sends q p)

-- the tables after the first i lines
pub record AreAboveSoFar (lines : List LogLine) (i : ℕ) (above last : List (Option ℕ)) : Type 0 where
  pub whole : length above ≡ length lines
  pub each : (n q p : ℕ) → n < i → IsOnLane lines q p n → IsLast (IsTakenOnLane lines q p) n (slice_index_or above n None)
  pub lasts : AreLastSends lines i last

-- a line at most t takes the message that line o sends
pub record IsTakenUpTo (lines : List LogLine) (o t : ℕ) : Type 0 where
  pub taker : ℕ
  pub takes : Takes lines o taker
  pub early : taker ≤ t

-- the table's entry for a send: by this line the send was taken, and so were all taken sends before it on its lane
abbrev pub IsOver : List LogLine → List (Option ℕ) → ℕ → Type 0
IsOver lines over n = (t q p : ℕ) → slice_index_or over n None ≡ Some t → IsOnLane lines q p n
    → (o : ℕ) → o ≤ n → IsTakenOnLane lines q p o → IsTakenUpTo lines o t

pub record AreOver (lines : List LogLine) (over : List (Option ℕ)) : Type 0 where
  pub whole : length over ≡ length lines
  pub each : (n : ℕ) → n < length lines → IsOver lines over n

-- the later of two lines, if both are given
abbrev pub later_of : Option ℕ → Option ℕ → Option ℕ
later_of None other = None
later_of (Some t) None = None
later_of (Some t) (Some u) = Some (max t u)

-- the line by which a send and the taken sends before it on its lane were taken; given are the last of these sends, the
-- line that takes the send, and the table
abbrev pub until_of : Option ℕ → Option ℕ → List (Option ℕ) → Option ℕ
until_of None taker over = taker
until_of (Some s) taker over = later_of taker (slice_index_or over s None)

-- the tables belong to this log
pub record AreLaneTables (lines : List LogLine) (takers above over : List (Option ℕ)) : Type 0 where
  pub log : IsLog lines
  pub taken : AreTakers lines takers
  pub sends : AreAbove lines above
  pub past : AreOver lines over
