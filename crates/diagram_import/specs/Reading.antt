-- The diagram of a text, whether or not it has a chart.
use Rattle.std.specs.Prelude.{ℕ, false, List, Option, Result, Ok, Err, if◌then◌else◌}
use Rattle.diagrams.specs.Diagrams.{DiagramView}
use Rattle.diagrams.specs.Building.{◌>>=◌}
use Rattle.diagram_tool.specs.declared.Tool.{Tool}
use Rattle.diagram_import.specs.Importing.{OptionsView, behind_mark}
use Rattle.diagram_import.specs.Readers.{tool_in, diagram_in}
use Rattle.diagram_import.specs.Refusals.{Refusal, Usage}
use Rattle.diagram_import.specs.Skipping.{blanked_from, lines_from, is_beyond}

-- the diagram of a text without skipped lines and without a byte order mark
unfoldable pub diagram_from : Option Tool → List ℕ → Result DiagramView Refusal
diagram_from tool text = do
  own ← tool_in tool text
  diagram_in own text

-- the diagram of a text
unfoldable pub diagram_of_text : Option Tool → List ℕ → OptionsView → Result DiagramView Refusal
diagram_of_text tool text options =
    if is_beyond options.skipped (lines_from 0 false text) then Err Usage
    else diagram_from tool (behind_mark (blanked_from options.skipped 1 text))
