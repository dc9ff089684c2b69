-- The line about a schedule's commands that did nothing (this project's own). A note belongs to such a command, and the
-- notes of an outcome are in the order of their lines.
use Rattle.std.specs.Prelude.{◌≡◌, ℕ, ◌==◌, List, [], ◌∷◌, ◌++◌, length, codes, decimal, Option, None, Some, Result, Ok, Err, if◌then◌else◌}
use Rattle.cmd_base.specs.Answers.{Exit}
use Rattle.cmd_base.specs.declared.not_done.NotDone.{NotDone}
use Rattle.cmd_base.specs.declared.source.Source.{Source}
use Rattle.cmd_base.specs.declared.source.Source.TheVariants.{Run, Written}
use Rattle.schedule.specs.declared.command.Note.{Note}

-- from notes: how many there are, and the line of the first
abbrev pub first_of : List Note → Option NotDone
first_of [] = None
first_of (note ∷ notes) = Some (record { count = length (note ∷ notes); line = note.line })

-- the commands that did nothing in the schedule from which a chart comes; a chart with a text of its own has none
abbrev pub not_done_of : Source → Option NotDone
not_done_of (Run schedule outcome) = first_of outcome.notes
not_done_of (Written named) = None

-- `Does` holds of a source's chart and of the part of the result that `done_of` selects, and `noted` selects the
-- commands that did nothing; or `Does` holds of the refusal
abbrev pub IsNoted : {T U E : Type 0} → (T → U) → (T → Option NotDone) → (Source → Result U E → Type 0) → Source → Result T E → Type 0
IsNoted done_of noted Does source (Ok x) = Does source (Ok (done_of x)) × (noted x ≡ not_done_of source)
IsNoted done_of noted Does source (Err error) = Does source (Err error)

-- the line for one command that did nothing
unfoldable pub one_text : ℕ → List ℕ
one_text line = codes "1 command of the schedule did nothing, in line " ++ (decimal line ++ codes ": the chart lacks it\n")

-- the line for several commands that did nothing, with the line number of the first
unfoldable pub several_text : ℕ → ℕ → List ℕ
several_text count line = decimal count ++ (codes " commands of the schedule did nothing, the first in line "
    ++ (decimal line ++ codes ": the chart lacks them\n"))

-- the line about them
abbrev pub not_done_text : NotDone → List ℕ
not_done_text them = if them.count == 1 then one_text them.line else several_text them.count them.line

-- the line, if there are such commands
abbrev pub not_done_diagnostic : Option NotDone → Option (List ℕ)
not_done_diagnostic None = None
not_done_diagnostic (Some them) = Some (not_done_text them)

-- the exit status and text of a chart that was written
abbrev pub not_done_exit : Option NotDone → Exit
not_done_exit them = record { status = 0; diagnostics = not_done_diagnostic them }
