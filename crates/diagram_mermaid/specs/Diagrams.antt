-- The statements of a text from the top, and its first fault.
use Rattle.std.specs.Prelude.{ℕ, Bool, true, false, List, [], ◌∷◌, ◌++◌, map, Option, None, Some, if◌then◌else◌}
use Rattle.diagram_statements.specs.Lines.{line_place, lines_of, stripped_line}
use Rattle.diagram_statements.specs.Readings.{ReadView, behind}
use Rattle.diagram_statements.specs.Statements.{LineView, line_view, StatementView}
use Rattle.diagram_statements.specs.declared.statement.Fault.{Fault}
use Rattle.diagram_statements.specs.declared.statement.Fault.TheVariants.{NotRead, Unfinished}
use Rattle.diagram_mermaid.specs.Pieces.{stepped}
use Rattle.diagram_mermaid.specs.Meanings.{says}
use Rattle.diagram_mermaid.specs.declared.diagram.Pieces.{Pieces}
use Rattle.diagram_mermaid.specs.declared.piece.Standing.{Standing}
use Rattle.diagram_mermaid.specs.declared.piece.Standing.TheVariants.{Above, Title, Body, Inside}

abbrev pub pieces_view : Pieces → List LineView × Standing
pieces_view p = (map line_view p.pieces.items, p.standing)

-- the statements of these lines, in pieces, and the position of their reader at the end
abbrev pub pieces_in : Standing → List LineView → List LineView × Standing
pieces_in standing [] = ([], standing)
pieces_in standing (l ∷ ls) = (
  (stepped standing (stripped_line l)).0 ++ (pieces_in (stepped standing (stripped_line l)).1 ls).0,
  (pieces_in (stepped standing (stripped_line l)).1 ls).1,
)

abbrev pub statements_by : LineView → Option (List StatementView) → ReadView → ReadView
statements_by l None others = ([], Some (NotRead (line_place l)))
statements_by l (Some element) others = behind element others

-- the statements of these pieces: the first one that can't be read is the fault
abbrev pub statements_of : List LineView → ReadView
statements_of [] = ([], None)
statements_of (l ∷ ls) = statements_by l (says (line_place l) l.words) (statements_of ls)

-- a title block or another block is open
abbrev pub is_open : Standing → Bool
is_open Above = false
is_open Body = false
is_open Title = true
is_open (Inside block) = true

-- a block that nothing ends is a fault after all others
unfoldable pub last_fault : Option Fault → Standing → Option Fault
last_fault (Some fault) standing = Some fault
last_fault None standing = if is_open standing then Some Unfinished else None

abbrev pub finished : Standing → ReadView → ReadView
finished standing read = (read.0, last_fault read.1 standing)

-- the statements of a text, and its first fault
unfoldable pub diagram_of : List ℕ → ReadView
diagram_of text = finished (pieces_in Above (lines_of text)).1 (statements_of (pieces_in Above (lines_of text)).0)
