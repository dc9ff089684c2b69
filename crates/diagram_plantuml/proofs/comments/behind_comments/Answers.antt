use Rattle.std.proofs.Common.{arith}
use Rattle.diagram_statements.specs.Statements.{line_view}
use Rattle.diagram_plantuml.proofs.CommentLoops.{first_comment}
use Rattle.diagram_plantuml.proofs.comments.behind_comments.Goals as goal

pub comments-init : goal.comments-init
comments-init c = record { same = first_comment (line_view c.args.line); room = omega arith }
