-- What is printed on standard error, and the exit status.
use Rattle.std.specs.Prelude.{ℕ, List, ◌++◌, Some, Result}
use Rattle.cmd_base.specs.Answers.{Exit, refusal, program_exit, exit_of}
use Rattle.cmd_base.specs.declared.error.ProgramError.{ProgramError}
use Rattle.cmd_base.specs.Pairs.Answers as pairs
use Rattle.cmd_base.specs.declared.pairs.error.PairError.TheVariants.{Program}
use Rattle.cmd_mend.specs.declared.answering.Outcome.{Outcome}
use Rattle.cmd_mend.specs.declared.answering.Status.{Status}
use Rattle.cmd_mend.specs.declared.answering.Status.TheVariants.{Done, Undone}
use Rattle.cmd_mend.specs.declared.error.MendRefusal.{MendRefusal}
use Rattle.cmd_mend.specs.declared.error.MendRefusal.TheVariants.{View, LineFull}
use Rattle.cmd_mend.specs.declared.word.Word.TheVariants as words
use Rattle.cmd_mend.specs.Words.{word_text}

-- what the programs refuse too
abbrev pub by_program : ProgramError → MendRefusal
by_program cause = View (Program cause)

-- the line of a full line's refusal
unfoldable pub full_text : List ℕ → List ℕ
full_text name = word_text words.LineFull ++ (name ++ word_text words.End)

-- the line of a refusal
abbrev pub refusal_text : MendRefusal → List ℕ
refusal_text (View cause) = pairs.refusal_text cause
refusal_text (LineFull name) = full_text name

abbrev pub refusal_exit : MendRefusal → Exit
refusal_exit error = refusal (refusal_text error)

-- 0 where it was done or needn't be, and 1 where it can't
abbrev pub code_of : Status → ℕ
code_of Done = 0
code_of Undone = 1

abbrev pub outcome_exit : Outcome → Exit
outcome_exit outcome = record { status = code_of outcome.status; diagnostics = Some outcome.diagnostics.items }

-- the diagnostics for a race pair that was to be mended
abbrev pub mend_exit : Result Outcome MendRefusal → Exit
mend_exit = exit_of outcome_exit refusal_exit

-- and of all
abbrev pub mend_all_exit : Result Outcome ProgramError → Exit
mend_all_exit = exit_of outcome_exit program_exit
