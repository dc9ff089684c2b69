-- What C gets from a task that is done with the bytes of a file (this project's profile): the exit status, and the
-- lengths of its texts.
use Rattle.std.specs.Prelude.{◌≡◌, ℕ, List, Result, Ok, Err}
use lib.IntN.{ℤ, pos}
use Rattle.c_board.specs.declared.misuse.Misuse.{Misuse}
use Rattle.c_board.specs.declared.misuse.Numbering.TheVariants.{Alike}
use Rattle.c_board.specs.Refusals.{of_misuse}
use Rattle.c_commands.specs.declared.performing.Performed.{Performed}
use Rattle.c_commands.specs.Performing.{task_in, Performs}
use Rattle.msc.specs.declared.performing.MscLengths.{MscLengths}
use Rattle.msc.specs.Answers.{code_of, Got}

-- the exit status, or the number of a misuse
abbrev pub performed_code : Result Performed Misuse → ℤ
performed_code (Ok performed) = pos performed.status
performed_code (Err how) = code_of (of_misuse Alike how)

-- the lengths, or otherwise those before
abbrev pub lengths_after : MscLengths → Result Performed Misuse → MscLengths
lengths_after before (Ok performed) = record { out = performed.out; err = performed.err }
lengths_after before (Err how) = before

-- bytes for standard output, and for standard error
pub record Streams : Type 0 where
  pub out : List ℕ
  pub err : List ℕ

-- the task with this number is done with the bytes
abbrev pub PerformsTask : ℕ → ℕ → List ℕ → Streams → Got MscLengths → Streams → Type 0
PerformsTask task seed bytes room got written = (answer : Result Performed Misuse)
    × Performs (task_in task seed) bytes room.out room.err answer written.out written.err
    × (got.code ≡ performed_code answer) × (got.output ≡ lengths_after got.before answer)
