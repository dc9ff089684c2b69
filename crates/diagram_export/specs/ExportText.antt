-- The text of a chart for another tool (this project's profile).
use Rattle.std.specs.Prelude.{ℕ, ◌^◌, ◌-◌, ◌==◌, min, List, [], ◌++◌, Option, None, Some, codes, length, if◌then◌else◌}
use Rattle.std.specs.List.{flat_map}
use Rattle.chart.specs.Charts.{LineView}
use Rattle.chart.specs.Reports.{ReportView}
use Rattle.chart.specs.declared.instance.EventNo.{EventNo}
use Rattle.chart_layout.specs.declared.row.Row.{Row}
use Rattle.chart_layout.specs.declared.row.Row.TheVariants.{Message, Event}
use Rattle.texts.specs.Instances.{name_at}
use Rattle.diagram_tool.specs.declared.Tool.{Tool}
use Rattle.diagram_tool.specs.declared.Tool.TheVariants.{Mscgen, PlantUml, Mermaid}
use Rattle.diagram_export.specs.declared.word.Word.TheVariants as words
use Rattle.diagram_export.specs.Exports.{ExportView, note_of}
use Rattle.diagram_export.specs.Sayings.{saying_of}
use Rattle.diagram_export.specs.Words.{spelled}
use Rattle.diagram_export.specs.Spelling.{indent, who, space, races, saying_text}

-- the text's beginning, and its end
unfoldable pub start : Tool → List ℕ
start Mscgen = codes "msc {\n"
start PlantUml = codes "@startuml\n"
start Mermaid = codes "sequenceDiagram\n"

unfoldable pub end : Tool → List ℕ
end Mscgen = codes "}\n"
end PlantUml = codes "@enduml\n"
end Mermaid = codes ""

-- the declaration of an instance
unfoldable pub comma_before : ℕ → List ℕ
comma_before p = if p == 1 then codes "  " else codes ",\n  "

unfoldable pub in_mscgen : ExportView → ℕ → List ℕ
in_mscgen v p = comma_before p ++ who v p

unfoldable pub in_plantuml : ExportView → ℕ → List ℕ
in_plantuml v p = spelled words.Participant ++ (who v p ++ spelled words.LineEnd)

unfoldable pub in_mermaid : ExportView → ℕ → List ℕ
in_mermaid v p = indent v.tool ++ (spelled words.Participant ++ (who v p ++ (spelled words.As ++ (name_at v.names p
    ++ spelled words.LineEnd))))

abbrev pub declared_in : Tool → ExportView → ℕ → List ℕ
declared_in Mscgen v p = in_mscgen v p
declared_in PlantUml v p = in_plantuml v p
declared_in Mermaid v p = in_mermaid v p

abbrev pub participant : ExportView → LineView → List ℕ
participant v line = declared_in v.tool v line.instance

-- the text after all participants
unfoldable pub participants_end : Tool → List ℕ
participants_end Mscgen = codes ";\n"
participants_end PlantUml = codes ""
participants_end Mermaid = codes ""

-- the event of a row that may have races: the receive of a message, or the single event
abbrev pub noted : Row → EventNo
noted (Message send receive) = receive
noted (Event e) = e

-- the number of earlier events, up to the greatest number of 64 bits
abbrev pub counted : ReportView → ℕ
counted report = min (length report.earlier) (2 ^ 64 - 1)

abbrev pub note_text : ExportView → Option ReportView → List ℕ
note_text v None = []
note_text v (Some report) = races v report (counted report)

-- a row: its saying, and below it the races of its receive
unfoldable pub row_text : ExportView → Row → List ℕ
row_text v row = saying_text v (saying_of v row) ++ note_text v (note_of v (noted row))

-- without events mscgen still needs a row
abbrev pub no_rows : Tool → List ℕ
no_rows Mscgen = space
no_rows PlantUml = []
no_rows Mermaid = []

abbrev pub rows_text : ExportView → List ℕ
rows_text v = if length v.rows == 0 then no_rows v.tool else flat_map (row_text v) v.rows

-- the text
unfoldable pub export_text : ExportView → List ℕ
export_text v = start v.tool ++ (flat_map (participant v) v.lines ++ (participants_end v.tool ++ (rows_text v
    ++ end v.tool)))
