use Rattle.std.proofs.Common.{map, arith, ap}
use Rattle.diagram_statements.specs.Statements.{line_view}
use Rattle.diagram_mermaid.proofs.TextLoops.{first_lines, next_line}
use Rattle.diagram_mermaid.proofs.diagram.pieces_of.Goals as goal

pub lines-init : goal.lines-init
lines-init c = first_lines c.args.text.now _ (ap (map line_view) c.new-pieces.ensures.items)

pub lines-preserved : goal.lines-preserved
lines-preserved c =
    next_line c.args.text.now _ _ _ _ _ _ _ (line_view c.first_line.result) c.lines.invariant (omega arith) c.first_line.ensures.line c.in_ok-standing.ensures
    c.behind_line-rest.ensures.value (c.behind_line-rest.ensures.shorter (omega arith))
