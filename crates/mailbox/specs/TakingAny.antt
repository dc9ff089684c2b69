-- What a receive from any instance answers (this project's profile).
use Rattle.std.specs.Prelude.{◌≡◌, ℕ, ◌+◌, ◌-◌, ◌≤◌, ◌⊎◌, Bool, true, false, List, [], ◌∷◌, ◌++◌, map, drop, All, Result, Ok, Err}
use Rattle.chart.specs.Words.{Instance}
use Rattle.chart.specs.declared.history.Occurrence.{Occurrence}
use Rattle.chart.specs.Histories.{waiting, is_closed, Begins}
use Rattle.chart.specs.Scans.{scan}
use Rattle.board.specs.declared.answer.Taken.{Taken}
use Rattle.board.specs.declared.answer.Taken.TheVariants.{Got, Nothing, Ended}
use Rattle.board.specs.declared.error.TakeError.{TakeError}
use Rattle.board.specs.declared.error.TakeError.TheVariants.{NoSuchInstance, ToItself, LineFull, Memory}
use Rattle.board.specs.Views.{PostView, Stays}
use Rattle.board.specs.Taking.{IsGot, IsUntaken}

-- a look at the lane from an instance, and the history at this look
pub record Look : Type 0 where
  pub from : ℕ
  pub front : List Occurrence

abbrev pub lanes_of : List Look → List Instance
lanes_of looks = map (λ (look : Look). look.from) looks

-- At each of these looks no message waits for p. The history of each look begins with that of the look before it, and
-- the first one with what was seen before. The history after all looks begins with that of the last one.
abbrev pub NoneWaits : ℕ → List Occurrence → List Look → List Occurrence → Type 0
NoneWaits p seen [] after = Begins seen after
NoneWaits p seen (look ∷ looks) after = Begins seen look.front × (waiting look.front look.from p ≡ [])
    × NoneWaits p look.front looks after

-- the lane from this instance is the first in this order on which a message was found. None waited at a look at each
-- lane before it. The history in which the message was found comes after these looks
abbrev pub IsFirst : PostView → List Instance → ℕ → List Occurrence → Type 0
IsFirst old order from found = (looks : List Look) × (rest : List Instance) × (order ≡ lanes_of looks ++ from ∷ rest)
    × NoneWaits old.number old.seen looks found

-- at one of these looks the lane was open
abbrev pub IsOneOpen : ℕ → List Look → Type 0
IsOneOpen p [] = ⊥
IsOneOpen p (look ∷ looks) = (is_closed look.front look.from p ≡ false) ⊎ IsOneOpen p looks

-- the lane from this instance is closed, and no message waits on it
abbrev pub IsDrained : PostView → ℕ → Type 0
IsDrained post q = (is_closed post.seen q post.number ≡ true) × (waiting post.seen q post.number ≡ [])

-- whether it is the end: if so, each of these lanes is drained now; otherwise one was open at its look
abbrev pub IsEnd : Bool → ℕ → List Look → PostView → Type 0
IsEnd true p looks new = All (IsDrained new) (lanes_of looks)
IsEnd false p looks new = IsOneOpen p looks

-- a look at each lane, in this order, found that no message waits, and whether it is the end; none waited in what was
-- seen before
pub record AreFoundEmpty (old : PostView) (order : List Instance) (its_end : Bool) (new : PostView) : Type 0 where
  pub found : (looks : List Look) × (order ≡ lanes_of looks) × NoneWaits old.number old.seen looks new.seen
      × IsEnd its_end old.number looks new
  pub before : All (λ q. waiting old.seen q old.number ≡ []) order

-- why the first message isn't received: F14 and F13 never come
abbrev pub IsFirstUntaken : PostView → List Instance → TakeError → PostView → Type 0
IsFirstUntaken old order NoSuchInstance new = ⊥
IsFirstUntaken old order ToItself new = ⊥
IsFirstUntaken old order LineFull new = (from : ℕ) × IsFirst old order from new.seen × IsUntaken old from LineFull new
IsFirstUntaken old order Memory new = (from : ℕ) × IsFirst old order from new.seen × IsUntaken old from Memory new

-- what a receive from the first of these lanes with a message answers; if it received one, the message was found in the
-- history before its receive
abbrev pub TakesFirst : PostView → List Instance → Result Taken TakeError → PostView → Type 0
TakesFirst old order (Ok (Got arrival)) new = IsGot old arrival.from arrival new
    × IsFirst old order arrival.from (drop 1 new.seen)
TakesFirst old order (Ok Nothing) new = Stays old new × AreFoundEmpty old order false new
TakesFirst old order (Ok Ended) new = Stays old new × AreFoundEmpty old order true new
TakesFirst old order (Err error) new = Stays old new × IsFirstUntaken old order error new

-- it looked at least `many` times, if it found no message
abbrev pub LooksAtAll : ℕ → PostView → Result Taken TakeError → PostView → Type 0
LooksAtAll many old (Ok (Got arrival)) new = Unit {0}
LooksAtAll many old (Ok Nothing) new = old.looks + many ≤ new.looks
LooksAtAll many old (Ok Ended) new = old.looks + many ≤ new.looks
LooksAtAll many old (Err error) new = Unit {0}

-- what a receive from any instance answers; it begins after the instance from which the mailbox received last, 0 for
-- none
abbrev pub TakesAny : PostView → ℕ → Result Taken TakeError → PostView → Type 0
TakesAny old last result new = TakesFirst old (scan old.board.size old.number last) result new
    × LooksAtAll (old.board.size - 1) old result new
