use Rattle.std.proofs.Common.{◌≤◌, ◌+◌, length, map}
use Rattle.diagram_statements.specs.Statements.{line_view}
use Rattle.diagram_mermaid.proofs.PieceLoops.{PiecesLeft}
use Rattle.diagram_mermaid.proofs.piece.add_pieces.Given as goal

abbrev pub invariant-pieces : goal.invariant-pieces
invariant-pieces l = record {
  same : PiecesLeft (map line_view l.fn.pieces.items) (map line_view l.pieces.items) (line_view l.left) (line_view l.fn.line);
  room : l.left.column + length l.left.words.now ≤ l.fn.line.column + length l.fn.line.words.now;
}

abbrev pub decreases-pieces : goal.decreases-pieces
decreases-pieces l = length l.left.words.now
