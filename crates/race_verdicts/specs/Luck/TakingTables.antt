-- The places of the patterns of receives, for the crate's own functions.
use Rattle.std.specs.Prelude.{◌≡◌, ℕ, ◌<◌, ◌≤◌, List, length, Option, None, Some, slice_get, slice_index_or, AllPairs, Contains}
use Rattle.race_verdicts.specs.Luck.Tables.{IsFirst}
use Rattle.race_verdicts.specs.Luck.Taking.{Fits}
use Rattle.race_verdicts.specs.Recordings.{TakenView, WordsView, RecordingView}

-- the pattern at this place is one of line k
pub record IsOfLine (taken : List TakenView) (k i : ℕ) : Type 0 where
  pub stated : TakenView
  pub is : slice_get taken i ≡ Some stated
  pub line : stated.line ≡ k

-- the table has, for each of `count` lines, the place of its first pattern
pub record ArePlaced (taken : List TakenView) (count : ℕ) (places : List (Option ℕ)) : Type 0 where
  pub whole : length places ≡ count
  pub each : (k : ℕ) → k < count → IsFirst (IsOfLine taken k) (length taken) (slice_index_or places k None)

-- a message with these words fits a pattern of line k
pub record IsFitting (taken : List TakenView) (k : ℕ) (w : WordsView) : Type 0 where
  pub stated : TakenView
  pub among : Contains taken stated
  pub line : stated.line ≡ k
  pub fits : Fits stated.pattern w

-- the table belongs to this recording, whose patterns are in the order of their lines
pub record IsTaking (rec : RecordingView) (places : List (Option ℕ)) : Type 0 where
  pub placed : ArePlaced rec.taken (length rec.lines) places
  pub rising : AllPairs (λ a b. a.line ≤ b.line) rec.taken
