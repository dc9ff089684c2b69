-- The instance of each event in turn, in another tool's text, from the top down.
use Rattle.std.specs.Prelude.{ℕ, List, [], Option, Result, Ok, Err}
use Rattle.diagrams.specs.Diagrams.{DiagramView}
use Rattle.diagram_import.specs.Importing.{OptionsView}
use Rattle.diagram_import.specs.Reading.{diagram_of_text}
use Rattle.diagram_import.specs.Refusals.{Refusal}
use Rattle.diagram_join.specs.Turns.Diagrams.{turns_in}
use Rattle.diagram_join.specs.Joins.{JoinView}
use Rattle.diagram_tool.specs.declared.Tool.{Tool}

-- the turns in a diagram whose lines may be joined; none if no diagram can be read
abbrev pub turns_read : Result DiagramView Refusal → List JoinView → List ℕ
turns_read (Ok diagram) joins = turns_in diagram joins
turns_read (Err refusal) joins = []

-- the turns in the text of a tool
unfoldable pub turns_of_text : Option Tool → List ℕ → OptionsView → List ℕ
turns_of_text tool bytes options = turns_read (diagram_of_text tool bytes options) options.joins
