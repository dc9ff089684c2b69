use Rattle.std.proofs.Common.{map, arith, ap}
use Rattle.diagram_statements.specs.Statements.{line_view, statement_view}
use Rattle.diagram_plantuml.proofs.TextLoops.{first_lines, next_line}
use Rattle.diagram_plantuml.proofs.diagram.statements_of.Goals as goal

pub lines-init : goal.lines-init
lines-init c = first_lines c.args.joined.now c.args.text.now c.args.begins _ (ap (map statement_view) c.new-statements.ensures.items)

pub lines-preserved : goal.lines-preserved
lines-preserved c =
    next_line c.args.joined.now c.args.text.now c.args.begins _ _ _ _ _ _ _ _ _ _ _ (line_view c.first_line-line.result) c.lines.invariant (omega arith) c.first_line-line.ensures.line c.in-Ok.ensures
    c.region_behind-region.ensures c.behind_line-source.ensures.value c.behind_line-rest.ensures.value (c.behind_line-rest.ensures.shorter (omega arith))
