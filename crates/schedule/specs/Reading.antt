-- Reading a schedule's text, line by line from the top: its plan, or the first fault (this project's profile).
use Rattle.std.specs.Prelude.{◌≡◌, ℕ, ◌+◌, ◌==◌, List, [], ◌∷◌, ◌++◌, length, Result, Ok, Err, if◌then◌else◌}
use Rattle.texts.specs.Faults.{◌>>=◌, in_line}
use Rattle.texts.specs.Lines.{lines_of, end_of}
use Rattle.texts.specs.declared.fault.Cause.{Cause}
use Rattle.texts.specs.declared.fault.Fault.{Fault}
use Rattle.texts.specs.declared.fault.Fault.TheVariants.{Line, Unfinished}
use Rattle.schedule.specs.ActionLines.{action_of}
use Rattle.schedule.specs.FirstLines.{names_of, capacity_of}
use Rattle.schedule.specs.Plans.{Plan}
use Rattle.schedule.specs.declared.command.Command.{Command}

-- the next line, and those after it
abbrev pub next_of : List (List ℕ) → Result (List ℕ × List (List ℕ)) Fault
next_of [] = Err Unfinished
next_of (line ∷ lines) = Ok (line, lines)

-- the command of line n
unfoldable pub command_at : List (List ℕ) → ℕ → List ℕ → Result Command Fault
command_at names n line = do
  sound ← in_line n (action_of names line)
  Ok (record { line = n; actor = sound.0; action = sound.1 })

-- the commands of line n and of those after it
unfoldable pub commands_from : List (List ℕ) → ℕ → List (List ℕ) → Result (List Command) Fault
commands_from names n [] = Ok []
commands_from names n (line ∷ lines) = do
  command ← command_at names n line
  commands ← commands_from names (n + 1) lines
  Ok (command ∷ commands)

-- the last line has its line feed
abbrev pub with_end : {A : Type 0} → List ℕ → A → Result A Fault
with_end rest read = if length rest == 0 then Ok read else Err Unfinished

-- the commands from line 3 on
unfoldable pub commands_of : List (List ℕ) → List (List ℕ) → List ℕ → Result (List Command) Fault
commands_of names lines rest = do
  commands ← commands_from names 3 lines
  with_end rest commands

-- the plan of a text, or the first fault
unfoldable pub schedule_of : List ℕ → Result Plan Fault
schedule_of bytes = do
  first ← next_of (lines_of bytes)
  names ← in_line 1 (names_of first.0)
  second ← next_of first.1
  capacity ← in_line 2 (capacity_of second.0)
  commands ← commands_of names second.1 (end_of bytes)
  Ok (record { names = names; capacity = capacity; commands = commands })

-- the first faulty line decides, whatever follows the text
abbrev pub FirstFaultLaw : Type 0
FirstFaultLaw = (a b : List ℕ) (n : ℕ) (c : Cause) → schedule_of a ≡ Err (Line n c)
    → schedule_of (a ++ b) ≡ Err (Line n c)
