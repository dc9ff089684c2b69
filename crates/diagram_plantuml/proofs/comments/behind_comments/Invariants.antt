use Rattle.std.proofs.Common.{◌≤◌, ◌+◌, length}
use Rattle.diagram_statements.specs.Statements.{line_view}
use Rattle.diagram_plantuml.proofs.CommentLoops.{CommentsLeft}
use Rattle.diagram_plantuml.proofs.comments.behind_comments.Given as goal

abbrev pub invariant-comments : goal.invariant-comments
invariant-comments l = record {
  same : CommentsLeft (line_view l.left) (line_view l.fn.line);
  room : l.left.column + length l.left.words.now ≤ l.fn.line.column + length l.fn.line.words.now;
}

abbrev pub decreases-comments : goal.decreases-comments
decreases-comments l = length l.left.words.now
