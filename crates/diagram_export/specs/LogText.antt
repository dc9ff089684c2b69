-- The text of a chart as a log with vector clocks, as ShiViz reads it. The first line is the parser's expression, and
-- the second is empty. Then each event has a line of its own (the words for an event are this project's profile).
use Rattle.std.specs.Prelude.{ℕ, ◌==◌, ◌||◌, List, [], ◌++◌, Option, None, Some, codes, decimal, length, nat_le, if◌then◌else◌}
use Rattle.std.specs.List.{flat_map}
use Rattle.chart.specs.Charts.{LineView}
use Rattle.chart.specs.Ranges.{ranges_of}
use Rattle.chart.specs.Reports.{ReportView}
use Rattle.chart.specs.declared.event.Event.{Event}
use Rattle.chart.specs.declared.event.Event.TheVariants.{Send, Receive}
use Rattle.clock.specs.Clocks.{entry_of}
use Rattle.texts.specs.Instances.{name_at}
use Rattle.texts.specs.Pieces.RaceWords.{amount}
use Rattle.diagram_export.specs.Earlier.{ranges_named}
use Rattle.diagram_export.specs.declared.log.Stamped.{Stamped}
use Rattle.diagram_export.specs.declared.word.Word.TheVariants as words
use Rattle.diagram_export.specs.Exports.{ExportView, event_of, note_of}
use Rattle.diagram_export.specs.ExportText.{counted}
use Rattle.diagram_export.specs.Spelling.{quoted}
use Rattle.diagram_export.specs.Words.{spelled}

-- the parser's expression, and an empty line: there is one execution
unfoldable pub log_start : List ℕ
log_start = codes "(?<host>\\S*) (?<clock>{.*}) (?<event>.*)\n\n"

-- the entry of an instance, if the clock has one
abbrev pub entry_in : List ℕ → ℕ → ℕ
entry_in clock p = if nat_le p (length clock) then entry_of clock p else 0

-- an entry of a clock
unfoldable pub entry_text : ExportView → List ℕ → ℕ → List ℕ
entry_text v clock p = quoted (name_at v.names p) ++ (spelled words.Colon ++ decimal (entry_in clock p))

unfoldable pub next_entry : ExportView → List ℕ → ℕ → List ℕ
next_entry v clock p = spelled words.Comma ++ entry_text v clock p

-- another instance's entry, if some of its events are known
abbrev pub other_entry : ExportView → Stamped → LineView → List ℕ
other_entry v stamped line =
    if line.instance == stamped.event.instance || entry_in stamped.clock line.instance == 0 then [] else
    next_entry v stamped.clock line.instance

-- a clock: the instance's own entry, and those of the others
unfoldable pub clock_text : ExportView → Stamped → List ℕ
clock_text v stamped = spelled words.ClockStart ++ (entry_text v stamped.clock stamped.event.instance
    ++ (flat_map (other_entry v stamped) v.lines ++ spelled words.ClockEnd))

-- the earlier events that a receive may come before
unfoldable pub races_text : ExportView → ReportView → ℕ → List ℕ
races_text v report events = spelled words.Comma ++ (spelled words.MayComeBefore ++ (amount events
    ++ ranges_named v (ranges_of report.earlier)))

abbrev pub races_of : ExportView → Option ReportView → List ℕ
races_of v None = []
races_of v (Some report) = races_text v report (counted report)

-- out MESSAGE to NAME, or in MESSAGE from NAME
unfoldable pub sent_text : ExportView → ℕ → List ℕ → List ℕ
sent_text v to name = spelled words.Out ++ (name ++ (spelled words.To ++ name_at v.names to))

unfoldable pub in_text : ExportView → ℕ → List ℕ → List ℕ
in_text v from name = spelled words.In ++ (name ++ (spelled words.From ++ name_at v.names from))

-- a receive is followed by its races
unfoldable pub received_text : ExportView → Stamped → ℕ → List ℕ → List ℕ
received_text v stamped from name = in_text v from name ++ races_of v (note_of v stamped.event)

abbrev pub event_text : ExportView → Stamped → Option Event → List ℕ
event_text v stamped None = []
event_text v stamped (Some (Send to name)) = sent_text v to name
event_text v stamped (Some (Receive from name region)) = received_text v stamped from name

-- a line of the log
unfoldable pub log_line : ExportView → Stamped → List ℕ
log_line v stamped = name_at v.names stamped.event.instance ++ (clock_text v stamped
    ++ (event_text v stamped (event_of v stamped.event) ++ spelled words.LineEnd))

-- the text of these events
unfoldable pub log_text : ExportView → List Stamped → List ℕ
log_text v log = log_start ++ flat_map (log_line v) log
