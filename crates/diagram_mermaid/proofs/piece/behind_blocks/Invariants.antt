use Rattle.std.proofs.Common.{◌≤◌, ◌+◌, length}
use Rattle.diagram_statements.specs.Statements.{line_view}
use Rattle.diagram_mermaid.proofs.PieceLoops.{BlocksLeft}
use Rattle.diagram_mermaid.proofs.piece.behind_blocks.Given as goal

abbrev pub invariant-openings : goal.invariant-openings
invariant-openings l = record {
  same : BlocksLeft (line_view l.left) (line_view l.fn.line);
  room : l.left.column + length l.left.words.now ≤ l.fn.line.column + length l.fn.line.words.now;
}

abbrev pub decreases-openings : goal.decreases-openings
decreases-openings l = length l.left.words.now
