-- The statements of a text from the top, and its first fault.
use Rattle.std.specs.Prelude.{ℕ, List, [], ◌∷◌, None, Some, Ok, Err, if◌then◌else◌}
use Rattle.diagram_statements.specs.Lines.{lines_of, stripped_line}
use Rattle.diagram_statements.specs.Statements.{LineView}
use Rattle.diagram_statements.specs.Readings.{ReadView, behind}
use Rattle.diagram_statements.specs.declared.statement.Fault.TheVariants.{Unfinished}
use Rattle.diagram_plantuml.specs.Joints.{below, joined_text}
use Rattle.diagram_plantuml.specs.Regions.{region_behind, region_in}
use Rattle.diagram_plantuml.specs.Standings.{Step, nothing_open, region_stepped, is_open}
use Rattle.diagram_plantuml.specs.declared.region.Region.{Region}
use Rattle.diagram_plantuml.specs.declared.region.Region.TheVariants.{Above, Inside, Below}
use Rattle.diagram_plantuml.specs.declared.standing.Standing.{Standing}

-- if something is still open at the end, that is a fault
abbrev pub finished : Standing → ReadView
finished standing = ([], if is_open standing then Some Unfinished else None)

abbrev pub step_by : (Standing → ReadView) → Step → ReadView
step_by others (Err fault) = ([], Some fault)
step_by others (Ok step) = behind step.0 (others step.1)

-- the statements of these joined lines; the first one is in this region, and begins with the first line of this source
abbrev pub read_from : Region → Standing → List ℕ → List LineView → ReadView
read_from region standing source [] = finished standing
read_from region standing source (l ∷ ls) =
    step_by (λ next. read_from (region_behind region (stripped_line l).words) next (below source) ls)
    (region_stepped region standing source (stripped_line l))

-- a text in which no diagram begins is one diagram, as a whole or up to `@enduml`
abbrev pub read_by : Region → List ℕ → List LineView → ReadView
read_by Above source ls = read_from Inside nothing_open source ls
read_by Inside source ls = ([], Some Unfinished)
read_by Below source ls = read_from Above nothing_open source ls

-- the statements of a text's joined lines
abbrev pub read_joined : List ℕ → List LineView → ReadView
read_joined text ls = read_by (region_in Above ls) text ls

-- the statements of a text, and its first fault
unfoldable pub diagram_of : List ℕ → ReadView
diagram_of text = read_joined text (lines_of (joined_text text))
