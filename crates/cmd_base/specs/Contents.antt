-- The contents of a file: a schedule or a chart, distinguished by the first word; and which charts are refused.
use Rattle.std.specs.Prelude.{◌≡◌, ℕ, Bool, true, false, List, [], ◌∷◌, bytes_eq, codes, Result, Ok, Err, if◌then◌else◌}
use Rattle.std.specs.List.{list_any, flat_map}
use Rattle.chart.specs.Charts.{LineView, chart_lines}
use Rattle.closure.specs.Faults.{Refuses}
use Rattle.closure.specs.declared.error.ChartError.TheVariants as faults
use Rattle.msc_text.specs.Reader.Reading.{chart_of}
use Rattle.texts.specs.Instances.{name_at}
use Rattle.texts.specs.Lines.{lines_of, words_of, ended}
use Rattle.texts.specs.declared.fault.Fault.{Fault}
use Rattle.schedule.specs.Plans.{Plan}
use Rattle.schedule.specs.Reading.{schedule_of}
use Rattle.cmd_base.specs.declared.error.ProgramError.{ProgramError}
use Rattle.cmd_base.specs.declared.error.ProgramError.TheVariants as errors

-- a chart's names and lines
abbrev pub Named : Type 0
Named = List (List ℕ) × List LineView

-- the value is what the text says, or the error is the text's fault, or memory ran out
abbrev pub Reads : {A : Type 0} → Result A ProgramError → Result A Fault → Type 0
Reads (Ok read) exit = exit ≡ Ok read
Reads (Err errors.Memory) exit = Unit {0}
Reads (Err (errors.Text fault)) exit = exit ≡ Err fault
Reads (Err _) exit = ⊥

-- the first of some words is a schedule's
abbrev pub begins_schedule : List (List ℕ) → Bool
begins_schedule [] = false
begins_schedule (word ∷ words) = bytes_eq word (codes "instances")

-- the first of some lines begins a schedule
abbrev pub begins_so : List (List ℕ) → Bool
begins_so [] = false
begins_so (line ∷ lines) = begins_schedule (words_of line)

-- the first word of a text is a schedule's
abbrev pub is_schedule : List ℕ → Bool
is_schedule bytes = begins_so (lines_of bytes)

-- the line ends a chart
abbrev pub ends_chart : List ℕ → Bool
ends_chart line = bytes_eq line (codes "endmsc;")

-- some lines, up to and including the first that ends a chart
abbrev pub through_end : List (List ℕ) → List (List ℕ)
through_end [] = []
through_end (line ∷ lines) = line ∷ (if ends_chart line then [] else through_end lines)

-- The part of a file that is a chart's text: all lines through the one that ends the chart. A file may have more after
-- it, as the output of `mscrun` does. If no line ends a chart, the part is the whole file.
abbrev pub chart_part : List ℕ → List ℕ
chart_part bytes = if list_any ends_chart (lines_of bytes) then flat_map ended (through_end (lines_of bytes)) else bytes

-- a text of this kind (a schedule or not) has the fault
abbrev pub HasFaultSo : Bool → List ℕ → Fault → Type 0
HasFaultSo true bytes fault = schedule_of bytes ≡ Err fault
HasFaultSo false bytes fault = chart_of (chart_part bytes) ≡ Err fault

abbrev pub HasFault : List ℕ → Fault → Type 0
HasFault bytes fault = HasFaultSo (is_schedule bytes) bytes fault

-- the refusal of the chart: a receive is given by its instance's name and its number
abbrev pub IsRefused : ProgramError → Named → Type 0
IsRefused (errors.ReceiveWithoutSend instance index) (names, lines) =
    (p : ℕ) × (instance ≡ name_at names p) × Refuses (chart_lines lines)
    (faults.ReceiveWithoutSend (record { instance = p; index = index }))
IsRefused (errors.NameMismatch instance index) (names, lines) =
    (p : ℕ) × (instance ≡ name_at names p) × Refuses (chart_lines lines)
    (faults.NameMismatch (record { instance = p; index = index }))
IsRefused errors.Cyclic (names, lines) = Refuses (chart_lines lines) faults.Cyclic
IsRefused _ named = ⊥
