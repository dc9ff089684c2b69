-- The diagram of a text, in the language of its tool.
use Rattle.std.specs.Prelude.{ℕ, List, Option, None, Some, Result, Ok, Err}
use Rattle.diagrams.specs.Diagrams.{DiagramView}
use Rattle.diagrams.specs.Building.{◌>>=◌}
use Rattle.diagram_join.specs.declared.error.JoinError.TheVariants.{Instances}
use Rattle.diagram_statements.specs.ToDiagram.Folds as folds
use Rattle.diagram_statements.specs.declared.to_diagram.labels.Breaks.{Breaks}
use Rattle.diagram_statements.specs.declared.to_diagram.labels.Breaks.TheVariants as breaks
use Rattle.diagram_statements.specs.Readings.{ReadView}
use Rattle.diagram_statements.specs.declared.statement.Fault.{Fault}
use Rattle.diagram_statements.specs.declared.statement.Fault.TheVariants as faults
use Rattle.diagram_mermaid.specs.Diagrams as mermaid
use Rattle.diagram_plantuml.specs.Diagrams as plantuml
use Rattle.diagram_mscgen.specs.Reading.Reading as mscgen
use Rattle.diagram_mscgen.specs.declared.reading.error.Fault.{Fault as MscgenFault}
use Rattle.diagram_mscgen.specs.declared.reading.error.Fault.TheVariants as mscgen_faults
use Rattle.diagram_tool.specs.Detection.Detection.{detected_tool}
use Rattle.diagram_tool.specs.declared.detection.detection.ToolError.{ToolError}
use Rattle.diagram_tool.specs.declared.detection.detection.ToolError.TheVariants as no_tool
use Rattle.diagram_tool.specs.declared.Tool.{Tool}
use Rattle.diagram_tool.specs.declared.Tool.TheVariants.{Mscgen, PlantUml, Mermaid}
use Rattle.diagram_import.specs.Refusals.{Refusal, NotRead, Unfinished, UnknownInstance, NoChart}
use Rattle.diagram_import.specs.Shown.{words_at}

-- the refusal of words at a place that can't be read
abbrev pub not_read : List ℕ → ℕ → ℕ → Refusal
not_read text line column = NotRead (record { line = line; column = column }) (words_at text (record { line = line; column = column }))

-- the refusal of a fault in a text of mscgen
abbrev pub of_mscgen : List ℕ → MscgenFault → Refusal
of_mscgen text (mscgen_faults.NotRead place) = not_read text place.line place.column
of_mscgen text mscgen_faults.Unfinished = Unfinished
of_mscgen text mscgen_faults.Instances = NoChart Instances
of_mscgen text (mscgen_faults.UnknownEntity line) = UnknownInstance line

-- the refusal of a fault in a text of PlantUML or Mermaid
abbrev pub of_lines : List ℕ → Fault → Refusal
of_lines text (faults.NotRead place) = not_read text place.line place.column
of_lines text faults.Unfinished = Unfinished

-- the refusal of a text without a detected tool
abbrev pub of_no_tool : List ℕ → ToolError → Refusal
of_no_tool text (no_tool.NotRead place) = not_read text place.line place.column
of_no_tool text no_tool.Unfinished = Unfinished

abbrev pub refused_as : {A E : Type 0} → (E → Refusal) → Result A E → Result A Refusal
refused_as refusal (Ok x) = Ok x
refused_as refusal (Err e) = Err (refusal e)

-- the tool of a text: the named one, or otherwise the detected one
unfoldable pub tool_in : Option Tool → List ℕ → Result Tool Refusal
tool_in (Some tool) text = Ok tool
tool_in None text = refused_as (of_no_tool text) (detected_tool text)

-- the diagram of the statements of a text of PlantUML or Mermaid
abbrev pub lines_in : Breaks → List ℕ → ReadView → Result DiagramView Refusal
lines_in breaks text read = refused_as (of_lines text) (folds.diagram_of breaks read)

-- the diagram of a text
unfoldable pub diagram_in : Tool → List ℕ → Result DiagramView Refusal
diagram_in Mscgen text = refused_as (of_mscgen text) (mscgen.diagram_of text)
diagram_in Mermaid text = lines_in breaks.Mermaid text (mermaid.diagram_of text)
diagram_in PlantUml text = lines_in breaks.PlantUml text (plantuml.diagram_of text)
