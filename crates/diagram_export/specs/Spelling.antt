-- The spelling of a chart's content in each tool: mscgen 0.20, and the sequence diagrams of PlantUML and of Mermaid
-- (the choice of the events that are notes is this project's profile).
use Rattle.std.specs.Prelude.{ℕ, List, ◌++◌, codes, decimal}
use Rattle.chart.specs.Ranges.{ranges_of}
use Rattle.chart.specs.Reports.{ReportView}
use Rattle.texts.specs.Instances.{name_at}
use Rattle.texts.specs.Pieces.RaceWords.{amount}
use Rattle.diagram_export.specs.Earlier.{ranges_named}
use Rattle.diagram_export.specs.declared.saying.Saying.{Saying}
use Rattle.diagram_export.specs.declared.saying.Saying.TheVariants.{Arrow, Lost, Late, Sends, Receives, Space}
use Rattle.diagram_tool.specs.declared.Tool.{Tool}
use Rattle.diagram_tool.specs.declared.Tool.TheVariants.{Mscgen, PlantUml, Mermaid}
use Rattle.diagram_export.specs.declared.word.Word.TheVariants as words
use Rattle.diagram_export.specs.Exports.{ExportView}
use Rattle.diagram_export.specs.Words.{spelled}

-- the indent of each line of a chart
unfoldable pub indent : Tool → List ℕ
indent Mscgen = codes "  "
indent PlantUml = codes ""
indent Mermaid = codes "    "

-- the sign between the ends of a message
unfoldable pub arrow_sign : Tool → List ℕ
arrow_sign Mscgen = codes " -> "
arrow_sign PlantUml = codes " -> "
arrow_sign Mermaid = codes "->>"

-- the sign between them if nobody receives the message
unfoldable pub lost_sign : Tool → List ℕ
lost_sign Mscgen = codes " -x "
lost_sign PlantUml = codes " ->x "
lost_sign Mermaid = codes " -x "

-- the text before a label, and after it
unfoldable pub label_start : Tool → List ℕ
label_start Mscgen = codes " [label=\""
label_start PlantUml = codes " : "
label_start Mermaid = codes ": "

unfoldable pub label_end : Tool → List ℕ
label_end Mscgen = codes "\"];\n"
label_end PlantUml = codes "\n"
label_end Mermaid = codes "\n"

-- an instance as an arrow names it: by its name, or in Mermaid by its number
unfoldable pub quoted : List ℕ → List ℕ
quoted name = spelled words.Quote ++ (name ++ spelled words.Quote)

unfoldable pub numbered : ℕ → List ℕ
numbered p = spelled words.Number ++ decimal p

abbrev pub who_in : Tool → List (List ℕ) → ℕ → List ℕ
who_in Mscgen names p = quoted (name_at names p)
who_in PlantUml names p = quoted (name_at names p)
who_in Mermaid names p = numbered p

abbrev pub who : ExportView → ℕ → List ℕ
who v p = who_in v.tool v.names p

-- an arrow without the text after its label
unfoldable pub arrow : ExportView → List ℕ → ℕ → ℕ → List ℕ → List ℕ
arrow v sign from to name = indent v.tool ++ (who v from ++ (sign ++ (who v to ++ (label_start v.tool ++ name))))

-- a message that is level, or that nobody receives
unfoldable pub whole_arrow : ExportView → List ℕ → ℕ → ℕ → List ℕ → List ℕ
whole_arrow v sign from to name = arrow v sign from to name ++ label_end v.tool

-- a message that ends this many rows further down, in mscgen
unfoldable pub late_arrow : ExportView → ℕ → ℕ → List ℕ → ℕ → List ℕ
late_arrow v from to name rows =
    arrow v (arrow_sign v.tool) from to name ++ (spelled words.ArcSkip ++ (decimal rows ++ label_end v.tool))

-- an empty row of mscgen
unfoldable pub space : List ℕ
space = codes "  |||;\n"

-- a note at an instance
unfoldable pub note_front : Tool → List ℕ
note_front Mscgen = codes ""
note_front PlantUml = codes "note over "
note_front Mermaid = codes "Note over "

-- in mscgen the instance is on both sides of the word for a note
unfoldable pub between : ExportView → ℕ → List ℕ
between v p = who v p ++ spelled words.Note

abbrev pub note_place : Tool → ExportView → ℕ → List ℕ
note_place Mscgen v p = between v p
note_place PlantUml v p = codes ""
note_place Mermaid v p = codes ""

unfoldable pub note_start : ExportView → ℕ → List ℕ
note_start v p = indent v.tool ++ (note_front v.tool ++ (note_place v.tool v p ++ (who v p ++ label_start v.tool)))

-- one event alone: out MESSAGE to NAME, or in MESSAGE from NAME
unfoldable pub sending : ExportView → ℕ → ℕ → List ℕ → List ℕ
sending v p to name = note_start v p ++ (spelled words.Out ++ (name ++ (spelled words.To ++ (name_at v.names to
    ++ label_end v.tool))))

unfoldable pub receiving : ExportView → ℕ → ℕ → List ℕ → List ℕ
receiving v p from name = note_start v p ++ (spelled words.In ++ (name ++ (spelled words.From ++ (name_at v.names from
    ++ label_end v.tool))))

-- the earlier events that a receive may come before
unfoldable pub races : ExportView → ReportView → ℕ → List ℕ
races v report events = note_start v report.receive.instance ++ (spelled words.MayComeBefore ++ (amount events
    ++ (ranges_named v (ranges_of report.earlier) ++ label_end v.tool)))

-- a saying in the tool's spelling
abbrev pub saying_text : ExportView → Saying → List ℕ
saying_text v (Arrow from to name) = whole_arrow v (arrow_sign v.tool) from to name
saying_text v (Lost from to name) = whole_arrow v (lost_sign v.tool) from to name
saying_text v (Late from to name rows) = late_arrow v from to name rows
saying_text v (Sends p to name) = sending v p to name
saying_text v (Receives p from name) = receiving v p from name
saying_text v Space = space
