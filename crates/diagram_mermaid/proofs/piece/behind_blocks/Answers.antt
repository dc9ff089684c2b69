use Rattle.std.proofs.Common.{arith}
use Rattle.diagram_statements.specs.Statements.{line_view}
use Rattle.diagram_mermaid.proofs.PieceLoops.{first_block}
use Rattle.diagram_mermaid.proofs.piece.behind_blocks.Goals as goal

pub openings-init : goal.openings-init
openings-init c = record { same = first_block (line_view c.args.line); room = omega arith }
