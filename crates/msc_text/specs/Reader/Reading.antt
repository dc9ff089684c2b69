-- Reads a chart's text, line by line from the top: its names and its chart, or its first fault.
use Rattle.std.specs.Prelude.{ℕ, ◌+◌, ◌==◌, List, [], ◌∷◌, length, Result, Ok, Err, nat_lt, if◌then◌else◌}
use Rattle.chart.specs.Charts.{LineView}
use Rattle.texts.specs.Instances.{with_name}
use Rattle.texts.specs.Faults.{◌>>=◌, in_line}
use Rattle.texts.specs.Lines.{lines_of, end_of}
use Rattle.texts.specs.declared.fault.Cause.{Cause}
use Rattle.texts.specs.declared.fault.Cause.TheVariants.{Instances, Syntax}
use Rattle.texts.specs.declared.fault.Fault.{Fault}
use Rattle.texts.specs.declared.fault.Fault.TheVariants.{Line, Unfinished}
use Rattle.msc_text.specs.Reader.Builders.{BuilderView, blank, built}
use Rattle.msc_text.specs.Reader.Steps.{step_of}
use Rattle.msc_text.specs.declared.reader.state.State.{State}
use Rattle.msc_text.specs.declared.reader.state.State.TheVariants.{Start, Outside, Inside, Done}
use Rattle.msc_text.specs.declared.reader.state.Saying.{Saying}
use Rattle.msc_text.specs.declared.reader.state.Saying.TheVariants.{Begin, Head, Send, Receive, Open, Shut, Foot, End}

-- the names after a line, or the fault that the line has by them
abbrev pub names_after : List (List ℕ) → Saying → Result (List (List ℕ)) Cause
names_after names Begin = Ok names
names_after names (Head own) = with_name names own
names_after names (Send to name) = Ok names
names_after names (Receive from name) = Ok names
names_after names Open = Ok names
names_after names Shut = Ok names
names_after names Foot = Ok names
names_after names End = if nat_lt (length names) 2 then Err Instances else Ok names

-- after the last whole line, before line n: the chart has ended, and nothing follows
abbrev pub finished : List (List ℕ) → State → ℕ → List ℕ → Result (List (List ℕ)) Fault
finished names Start n rest = Err Unfinished
finished names Outside n rest = Err Unfinished
finished names (Inside own events region) n rest = Err Unfinished
finished names Done n rest = if length rest == 0 then Ok names else Err (Line n Syntax)

-- the first look: the names of the instances, from line n on
unfoldable pub look_from : List (List ℕ) → State → ℕ → List (List ℕ) → List ℕ → Result (List (List ℕ)) Fault
look_from names state n [] rest = finished names state n rest
look_from names state n (line ∷ lines) rest = do
  step ← in_line n (step_of state line)
  more ← in_line n (names_after names step.0)
  look_from more step.1 (n + 1) lines rest

-- the second look: the lines that are built, from line n on
unfoldable pub build_from : List (List ℕ) → State → BuilderView → ℕ → List (List ℕ) → Result (List LineView) Fault
build_from names state d n [] = Ok d.lines
build_from names state d n (line ∷ lines) = do
  step ← in_line n (step_of state line)
  more ← in_line n (built names d step.0)
  build_from names step.1 more (n + 1) lines

-- the names of the text's instances
unfoldable pub names_in : List ℕ → Result (List (List ℕ)) Fault
names_in bytes = look_from [] Start 1 (lines_of bytes) (end_of bytes)

-- the lines of its instances
unfoldable pub lines_in : List (List ℕ) → List ℕ → Result (List LineView) Fault
lines_in names bytes = build_from names Start blank 1 (lines_of bytes)

-- the result of both looks
abbrev pub are_read : List (List ℕ) → List LineView → Result (List (List ℕ) × List LineView) Fault
are_read names lines = Ok (names, lines)

-- the names and the chart of a text
unfoldable pub chart_of : List ℕ → Result (List (List ℕ) × List LineView) Fault
chart_of bytes = do
  names ← names_in bytes
  lines ← lines_in names bytes
  are_read names lines
