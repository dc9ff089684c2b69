-- The results of `mscview tidy` for the bytes of a file.
use Rattle.std.specs.Prelude.{◌≡◌, ℕ, ◌-◌, List, [], ◌∷◌, ◌++◌, length, codes, decimal, Option, None, Some, Result, Ok, Err, slice_index_or}
use Rattle.cmd_base.specs.Answers.{Exit, program_exit, exit_of}
use Rattle.cmd_base.specs.Contents.{HasFault}
use Rattle.cmd_base.specs.Texts.{IsText}
use Rattle.cmd_base.specs.declared.error.ProgramError.{ProgramError}
use Rattle.cmd_base.specs.declared.error.ProgramError.TheVariants as errors
use Rattle.cmd_base.specs.declared.text.Text.{Text}
use Rattle.texts.specs.Outs.{Sink}
use Rattle.texts.specs.Writing.{Puts, Breaks}
use Rattle.texts.specs.declared.fault.Fault.{Fault}
use Rattle.texts.specs.declared.fault.Fault.TheVariants.{Line, Unfinished}
use Rattle.cmd_tidy.specs.Typing.{exact_text, typed_lines, staying_from, commented_from}
use Rattle.cmd_tidy.specs.declared.comments.Comments.{Comments}

-- the number of the typed line for a line of the exact text, by the numbers of the typed lines that stay
abbrev pub typed_line : List ℕ → ℕ → ℕ
typed_line lines n = slice_index_or lines (n - 1) n

-- a fault of the exact text, at its typed line
abbrev pub typed_fault : List ℕ → Fault → Fault
typed_fault lines (Line n cause) = Line (typed_line lines n) cause
typed_fault lines Unfinished = Unfinished

-- the report of one dropped comment, with its line
unfoldable pub one_text : ℕ → List ℕ
one_text line = codes "1 comment is left out, in line " ++ (decimal line ++ codes "\n")

-- the report of several dropped comments, with the line of the first
unfoldable pub several_text : ℕ → ℕ → List ℕ
several_text count line = decimal count ++ (codes " comments are left out, the first in line " ++ (decimal line ++ codes "\n"))

-- the report of dropped comments in these lines, if there are any
abbrev pub comments_diagnostics : List ℕ → Option (List ℕ)
comments_diagnostics [] = None
comments_diagnostics (line ∷ []) = Some (one_text line)
comments_diagnostics (line ∷ other ∷ lines) = Some (several_text (length (line ∷ other ∷ lines)) line)

abbrev pub comments_exit : Comments → Exit
comments_exit comments = record { status = 0; diagnostics = comments_diagnostics comments.lines.items }

-- the exit after a text was written or refused
abbrev pub tidy_exit : Result Comments ProgramError → Exit
tidy_exit = exit_of comments_exit program_exit

-- the exact text of the bytes is a schedule or a chart
abbrev pub IsReadable : List ℕ → Type 0
IsReadable typed = (text : Text) × IsText (exact_text typed) text

module _ {S : Type 0} (sink : S → Sink) where
  -- The exact text was written, which is a schedule or a chart, and its comments are the dropped ones. Or a beginning
  -- of it was written, if a put failed. Or nothing was written, if the exact text has a fault, which is reported at its
  -- typed line, or if memory ran out.
  abbrev pub Tidies : S → S → List ℕ → Result Comments ProgramError → Type 0
  Tidies old new typed (Ok comments) = IsReadable typed × (comments.lines.items ≡ commented_from 1 (typed_lines typed))
      × Puts sink old new (exact_text typed)
  Tidies old new typed (Err errors.Memory) = new ≡ old
  Tidies old new typed (Err errors.Write) = IsReadable typed × Breaks sink old new (exact_text typed)
  Tidies old new typed (Err (errors.Text fault)) = (found : Fault) × HasFault (exact_text typed) found
      × (fault ≡ typed_fault (staying_from 1 (typed_lines typed)) found) × (new ≡ old)
  Tidies old new typed (Err _) = ⊥
