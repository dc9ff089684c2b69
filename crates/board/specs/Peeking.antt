-- What a look at a lane answers (this project's profile).
use Rattle.std.specs.Prelude.{◌≡◌, ℕ, ◌+◌, ◌-◌, ◌<◌, ◌==◌, ◌&&◌, not, Bool, true, false, List, [], ◌∷◌, ◌++◌, filter, Result, Ok, Err}
use Rattle.std.specs.List.{range_with_len}
use Rattle.chart.specs.Words.{Instance}
use Rattle.board.specs.declared.answer.Peek.{Peek}
use Rattle.board.specs.declared.answer.Peek.TheVariants.{Message, Nothing, Ended}
use Rattle.board.specs.declared.answer.Scan.{Scan}
use Rattle.board.specs.declared.answer.Scan.TheVariants as among
use Rattle.board.specs.declared.error.TakeError.{TakeError}
use Rattle.board.specs.declared.error.TakeError.TheVariants.{NoSuchInstance, ToItself, LineFull, Memory}
use Rattle.board.specs.Views.{PostView, Sound, Stays}
use Rattle.board.specs.Taking.{IsFoundEmpty, Waits}

-- why there is no such lane
abbrev pub IsNoLane : PostView → ℕ → TakeError → Type 0
IsNoLane post from NoSuchInstance = post.board.size < from
IsNoLane post from ToItself = from ≡ post.number
IsNoLane post from LineFull = ⊥
IsNoLane post from Memory = ⊥

-- whether a message waits on the lane from an instance: nothing was received
abbrev pub Peeks : PostView → ℕ → Result Peek TakeError → PostView → Type 0
Peeks old from (Ok Message) new = Stays old new × Waits old from new
Peeks old from (Ok Nothing) new = Stays old new × IsFoundEmpty old from false new
Peeks old from (Ok Ended) new = Stays old new × IsFoundEmpty old from true new
Peeks old from (Err error) new = (new ≡ old) × IsNoLane old from error

-- the instances with a number above `from` and up to `to`, except p
abbrev pub others : ℕ → ℕ → ℕ → List Instance
others p from to = filter (λ q. not (q == p)) (range_with_len (from + 1) (to - from))

-- A look at the lane from each of these instances, in this order, found that no message waits. Each look starts from
-- what had been seen at the one before it. `its_end`: all these lanes were found closed.
abbrev pub ArePeeked : PostView → List Instance → Bool → PostView → Type 0
ArePeeked old [] its_end new = (new ≡ old) × (its_end ≡ true)
ArePeeked old (q ∷ order) its_end new = (mid : PostView) × (first : Bool) × (rest : Bool) × Sound old mid × Stays old mid
    × IsFoundEmpty old q first mid × ArePeeked mid order rest new × (its_end ≡ (first && rest))

-- the lane from this instance is the first in this order on which a message waits; a look at each lane before it found
-- none
pub record IsFirstWaiting (old : PostView) (order : List Instance) (from : ℕ) (new : PostView) : Type 0 where
  pub before : List Instance
  pub after : List Instance
  pub order_is : order ≡ before ++ from ∷ after
  pub mid : PostView
  pub its_end : Bool
  pub empty : ArePeeked old before its_end mid
  pub later : Sound mid new
  pub stays : Stays mid new
  pub waits : Waits mid from new

-- whether a message waits on one of the lanes from these instances: nothing was received
abbrev pub PeeksAmong : PostView → List Instance → Scan → PostView → Type 0
PeeksAmong old order (among.Message from) new = IsFirstWaiting old order from new
PeeksAmong old order among.Nothing new = ArePeeked old order false new
PeeksAmong old order among.Ended new = ArePeeked old order true new
