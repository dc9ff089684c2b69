-- What a receive of several messages answers, as a number (this project's profile). 0: as many came as there was room
-- to describe. 1: no more wait. 2: the lane has ended. A refusal has its number, below 0.
use Rattle.std.specs.Prelude.{◌≡◌, ℕ, List, Option, Result, Ok, Err}
use lib.IntN.{ℤ, pos}
use Rattle.board.specs.declared.answer.Stop.{Stop}
use Rattle.board.specs.declared.answer.Stop.TheVariants.{Asked, NoMore, Refused}
use Rattle.c_board.specs.declared.found.Arrived.{Arrived}
use Rattle.c_board.specs.declared.found.FoundMany.{FoundMany}
use Rattle.c_board.specs.declared.found.FoundMany.TheVariants.{Messages, Nothing, Ended}
use Rattle.c_board.specs.declared.kept.Kept.{Kept}
use Rattle.c_board.specs.declared.misuse.Numbering.TheVariants.{Alike}
use Rattle.c_board.specs.declared.receiving.TakeRefusal.{TakeRefusal}
use Rattle.c_board.specs.Receiving.{of_untaken}
use Rattle.c_board.specs.ReceivingMany.{HandleTakesMany}
use Rattle.c_board.specs.Refusals.{of_take}
use Rattle.msc.specs.Answers.{code_of}

-- the number of the reason why no more came
abbrev pub stop_code : Stop → ℤ
stop_code Asked = pos 0
stop_code NoMore = pos 1
stop_code (Refused error) = code_of (of_take error)

-- the same, or the number of the reason why none came
abbrev pub many_code : Result FoundMany TakeRefusal → ℤ
many_code (Ok (Messages count stop)) = stop_code stop
many_code (Ok Nothing) = pos 1
many_code (Ok Ended) = pos 2
many_code (Err refusal) = code_of (of_untaken Alike refusal)

-- how many came
abbrev pub many_of : Result FoundMany TakeRefusal → ℕ
many_of (Ok (Messages count stop)) = count
many_of (Ok Nothing) = 0
many_of (Ok Ended) = 0
many_of (Err refusal) = 0

-- some answer of the handle's call has this code, and describes these `many` messages
abbrev pub TakesUpTo : Option Kept → ℕ → List Arrived → ℤ → List Arrived → ℕ → Option Kept → Type 0
TakesUpTo old from room code output many new = (answer : Result FoundMany TakeRefusal)
    × HandleTakesMany old from room answer new output × (code ≡ many_code answer) × (many ≡ many_of answer)
