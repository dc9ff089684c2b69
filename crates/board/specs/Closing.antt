-- What closing a lane answers (this project's profile).
use Rattle.std.specs.Prelude.{◌≡◌, ℕ, ◌<◌, true, false, List, [], ◌∷◌, Result, Ok, Err}
use Rattle.chart.specs.declared.history.Occurrence.{Occurrence}
use Rattle.chart.specs.declared.history.Occurrence.TheVariants.{Close}
use Rattle.chart.specs.Histories.{is_closed}
use Rattle.board.specs.declared.error.CloseError.{CloseError}
use Rattle.board.specs.declared.error.CloseError.TheVariants.{NoSuchInstance, ToItself, Closed}
use Rattle.board.specs.Views.{PostView, Makes, IsPartner}

-- the lane was open, and its close is the last of all that was seen; a close is no event of a line, and takes no room
pub record IsClosed (old : PostView) (to : ℕ) (new : PostView) : Type 0 where
  pub two : IsPartner old to
  pub opened : is_closed old.made old.number to ≡ false
  pub makes : (before : List Occurrence) × Makes old before (Close new.number to ∷ []) new
  pub room : new.room ≡ old.room

-- why the lane isn't closed
abbrev pub IsUnclosed : PostView → ℕ → CloseError → Type 0
IsUnclosed old to NoSuchInstance = old.board.size < to
IsUnclosed old to ToItself = to ≡ old.number
IsUnclosed old to Closed = IsPartner old to × (is_closed old.made old.number to ≡ true)

-- what closing the lane to an instance answers; a refusal changes nothing
abbrev pub Closes : PostView → ℕ → Result (Unit {0}) CloseError → PostView → Type 0
Closes old to (Ok done) new = IsClosed old to new
Closes old to (Err error) new = (new ≡ old) × IsUnclosed old to error
