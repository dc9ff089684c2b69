use Rattle.std.proofs.Common.{length, map}
use Rattle.diagram_statements.specs.Statements.{line_view}
use Rattle.diagram_mermaid.proofs.TextLoops.{LinesLeft}
use Rattle.diagram_mermaid.proofs.diagram.pieces_of.Given as goal

abbrev pub invariant-lines : goal.invariant-lines
invariant-lines l = LinesLeft l.text (map line_view l.pieces.items) l.standing l.number l.rest

abbrev pub decreases-lines : goal.decreases-lines
decreases-lines l = length l.rest
