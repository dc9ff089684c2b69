-- The place of a diagram in a text: from `@startuml` to `@enduml` (PlantUML's documentation). A text without them is
-- one diagram.
use Rattle.std.specs.Prelude.{ℕ, Bool, ◌&&◌, ◌==◌, List, [], ◌∷◌, codes, length, drop, nat_eq, if◌then◌else◌}
use Rattle.std.specs.List.{starts_with}
use Rattle.diagram_statements.specs.Lines.{stripped_line}
use Rattle.diagram_statements.specs.Statements.{LineView}
use Rattle.diagram_plantuml_arrows.specs.Runs.{run_length}
use Rattle.diagram_plantuml_arrows.specs.declared.runs.Class.TheVariants.{Word}
use Rattle.diagram_plantuml.specs.declared.region.Region.{Region}
use Rattle.diagram_plantuml.specs.declared.region.Region.TheVariants.{Above, Inside, Below}

-- a line begins with this whole word
unfoldable pub is_mark : List ℕ → List ℕ → Bool
is_mark mark words = starts_with nat_eq words mark && run_length Word (drop (length mark) words) == 0

abbrev pub is_start : List ℕ → Bool
is_start words = is_mark (codes "@startuml") words

abbrev pub is_end : List ℕ → Bool
is_end words = is_mark (codes "@enduml") words

-- the region of the line after this one
unfoldable pub region_behind : Region → List ℕ → Region
region_behind Above words = if is_start words then Inside else Above
region_behind Inside words = if is_end words then Below else Inside
region_behind Below words = Below

-- the region after these lines
abbrev pub region_in : Region → List LineView → Region
region_in region [] = region
region_in region (l ∷ ls) = region_in (region_behind region (stripped_line l).words) ls
