-- The messages that a receive would have taken: their sender and name fit a pattern of its line (this project's profile
-- of logs). 42 is the byte `*`.
use Rattle.std.specs.Prelude.{◌≡◌, ℕ, List, [], ◌∷◌, ◌++◌, Some, slice_get, Contains}
use Rattle.race_verdicts.specs.Recordings.{PatternView, TakenView, WordsView, RecordingView}

-- the pattern's sender is any, or this one
pub data FitsSender (peer sender : List ℕ) : Type 0 where
  anyone : peer ≡ 42 ∷ [] → FitsSender peer sender
  itself : peer ≡ sender → FitsSender peer sender

-- the pattern's names are this one, or all that begin with the bytes before a `*` at its end
pub data FitsName (names name : List ℕ) : Type 0 where
  whole : names ≡ name → FitsName names name
  begins : (front rest : List ℕ) → names ≡ front ++ 42 ∷ [] → name ≡ front ++ rest → FitsName names name

-- a message with these words fits the pattern
pub record Fits (p : PatternView) (w : WordsView) : Type 0 where
  pub sender : FitsSender p.peer w.host
  pub name : FitsName p.names w.name

-- the receive of line k has no pattern
abbrev pub IsUnknown : RecordingView → ℕ → Type 0
IsUnknown rec k = (t : TakenView) → Contains rec.taken t → t.line ≡ k → ⊥

-- the receive of line k would have taken the message that line s sends: the receive has no pattern, or the message fits
-- one
pub data WouldTake (rec : RecordingView) (k s : ℕ) : Type 0 where
  anything : IsUnknown rec k → WouldTake rec k s
  fitting : (t : TakenView) (w : WordsView) → Contains rec.taken t → t.line ≡ k → slice_get rec.words s ≡ Some w
      → Fits t.pattern w → WouldTake rec k s
