-- The tools that a word of a command line names.
use Rattle.std.specs.Prelude.{ℕ, List, Option, None, Some, option_map, bytes_eq, codes, if◌then◌else◌}
use Rattle.diagram_tool.specs.declared.Tool.{Tool}
use Rattle.diagram_tool.specs.declared.Tool.TheVariants.{Mscgen, PlantUml, Mermaid}
use Rattle.cmd_draw.specs.declared.target.Target.{Target}
use Rattle.cmd_draw.specs.declared.target.Target.TheVariants.{Diagram, ShiViz}

-- the tool that a word names
abbrev pub tool_named : List ℕ → Option Tool
tool_named word =
    if bytes_eq word (codes "mscgen") then Some Mscgen else
    (if bytes_eq word (codes "plantuml") then Some PlantUml else
    (if bytes_eq word (codes "mermaid") then Some Mermaid else None))

-- the target of an export that a word names
abbrev pub target_named : List ℕ → Option Target
target_named word = if bytes_eq word (codes "shiviz") then Some ShiViz else option_map Diagram (tool_named word)
