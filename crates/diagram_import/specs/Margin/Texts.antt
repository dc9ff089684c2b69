-- The notes and dividers of another tool's text, and their places.
use Rattle.std.specs.Prelude.{ℕ, List, [], ◌++◌, length, Option, None, Some, Result, Ok, Err, if◌then◌else◌}
use Rattle.diagrams.specs.Diagrams.{DiagramView}
use Rattle.diagrams.specs.Building.{has_no_chart}
use Rattle.diagram_import.specs.Importing.{OptionsView, behind_mark}
use Rattle.diagram_import.specs.Readers.{tool_in}
use Rattle.diagram_import.specs.Reading.{diagram_of_text}
use Rattle.diagram_import.specs.Refusals.{Refusal}
use Rattle.diagram_import.specs.Skipping.{blanked_from}
use Rattle.diagram_join.specs.Turns.Diagrams.{messages_of}
use Rattle.diagram_statements.specs.declared.to_diagram.labels.Breaks.{Breaks}
use Rattle.diagram_statements.specs.declared.to_diagram.labels.Breaks.TheVariants as breaks
use Rattle.diagram_statements.specs.Readings.{ReadView}
use Rattle.chart_layout.specs.Margin.Notes.{NoteView}
use Rattle.diagram_mermaid.specs.Diagrams as mermaid
use Rattle.diagram_mscgen.specs.Grammar.Charts.{MscView}
use Rattle.diagram_mscgen.specs.Grammar.Faults.{msc_of}
use Rattle.diagram_plantuml.specs.Diagrams as plantuml
use Rattle.diagram_plantuml.specs.Joints.{joined_text}
use Rattle.diagram_tool.specs.declared.Tool.{Tool}
use Rattle.diagram_tool.specs.declared.Tool.TheVariants.{Mscgen, PlantUml, Mermaid}
use Rattle.diagram_import.specs.Margin.Arcs.{arc_remarks}
use Rattle.diagram_import.specs.Margin.Owns.{own_remarks}
use Rattle.diagram_import.specs.Margin.Placing.{placed}
use Rattle.diagram_import.specs.Margin.Remarks.{RemarkView}
use Rattle.diagram_import.specs.Margin.Statements.{statement_remarks}

abbrev pub arcs_remarked : {E : Type 0} → Result MscView E → List RemarkView
arcs_remarked (Ok m) = arc_remarks m.arcs
arcs_remarked (Err e) = []

-- the remarks of an mscgen text that aren't items of its diagram
unfoldable pub mscgen_remarks : List ℕ → List RemarkView
mscgen_remarks text = arcs_remarked (msc_of text)

-- the remarks of a text of PlantUML or Mermaid, by its statements
abbrev pub line_remarks : Breaks → List ℕ → ReadView → List RemarkView
line_remarks breaks text read = statement_remarks breaks text read.0

-- the remarks of a tool's text that aren't items of its diagram; in PlantUML, lines that continue in the next one are
-- one line
unfoldable pub text_remarks : Tool → List ℕ → List RemarkView
text_remarks Mscgen text = mscgen_remarks text
text_remarks Mermaid text = line_remarks breaks.Mermaid text (mermaid.diagram_of text)
text_remarks PlantUml text = line_remarks breaks.PlantUml (joined_text text) (plantuml.diagram_of text)

-- the remarks of a text with this diagram
abbrev pub all_remarks : Tool → List ℕ → DiagramView → List RemarkView
all_remarks tool text d = own_remarks d.participants d.items ++ text_remarks tool text

-- a text as it is read: without skipped lines and byte order mark
abbrev pub body_of : List ℕ → OptionsView → List ℕ
body_of text options = behind_mark (blanked_from options.skipped 1 text)

-- the tool that was found
abbrev pub tool_by : Result Tool Refusal → Option Tool
tool_by (Ok tool) = Some tool
tool_by (Err refusal) = None

abbrev pub notes_by : Option Tool → List ℕ → OptionsView → DiagramView → List NoteView
notes_by (Some tool) body options d = placed (all_remarks tool body d) (messages_of d options.joins)
notes_by None body options d = []

-- the notes and dividers of a text with this diagram; none if it has too few participants for a chart, or too many
abbrev pub notes_of : Option Tool → List ℕ → OptionsView → DiagramView → List NoteView
notes_of tool text options d =
    if has_no_chart (length d.participants) then []
    else notes_by (tool_by (tool_in tool (body_of text options))) (body_of text options) options d

abbrev pub notes_read : Option Tool → List ℕ → OptionsView → Result DiagramView Refusal → List NoteView
notes_read tool text options (Ok d) = notes_of tool text options d
notes_read tool text options (Err refusal) = []

-- the notes and dividers of a text: each is above the first message of its chart in its line or below it
unfoldable pub notes_of_text : Option Tool → List ℕ → OptionsView → List NoteView
notes_of_text tool text options = notes_read tool text options (diagram_of_text tool text options)
