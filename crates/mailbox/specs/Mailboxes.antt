-- What a contract sees of a mailbox (this project's profile).
use Rattle.std.specs.Prelude.{ℕ, Result, Ok, Err}
use Rattle.board.specs.declared.answer.Taken.{Taken}
use Rattle.board.specs.declared.answer.Taken.TheVariants as one
use Rattle.board.specs.declared.answer.TakenMany.{TakenMany}
use Rattle.board.specs.declared.answer.TakenMany.TheVariants as several
use Rattle.board.specs.declared.error.TakeError.{TakeError}
use Rattle.board.specs.Views.{PostView}

-- the post, and the instance from which it received last, 0 for none
pub record MailboxView : Type 0 where
  pub post : PostView
  pub last : ℕ

-- the instance from which it received last, after this answer
abbrev pub last_after : ℕ → Result Taken TakeError → ℕ
last_after last (Ok (one.Got arrival)) = arrival.from
last_after last (Ok one.Nothing) = last
last_after last (Ok one.Ended) = last
last_after last (Err error) = last

-- the same after an answer with several messages from one instance
abbrev pub last_after_many : ℕ → ℕ → Result TakenMany TakeError → ℕ
last_after_many last from (Ok (several.Got arrivals stop)) = from
last_after_many last from (Ok several.Nothing) = last
last_after_many last from (Ok several.Ended) = last
last_after_many last from (Err error) = last
