-- The instance of each event in turn, in a text that can be read.
use Rattle.std.proofs.Common.{◌≡◌, ℕ, List, Option, Ok, ap}
use Rattle.diagrams.specs.Diagrams.{DiagramView}
use Rattle.diagram_import.specs.Importing.{OptionsView}
use Rattle.diagram_import.specs.Reading.{diagram_of_text}
use Rattle.diagram_join.specs.Turns.Diagrams.{turns_in}
use Rattle.diagram_tool.specs.declared.Tool.{Tool}
use Rattle.cmd_draw.specs.Imports.Turns.{turns_read, turns_of_text}

pub turns_found : (tool : Option Tool) (bytes : List ℕ) (options : OptionsView) (d : DiagramView) → diagram_of_text tool bytes options ≡ Ok d → turns_of_text tool bytes options ≡ turns_in d options.joins
unfolding turns_of_text
turns_found tool bytes options d is = ap (λ r. turns_read r options.joins) is
