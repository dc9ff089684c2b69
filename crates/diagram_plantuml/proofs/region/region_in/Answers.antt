use Rattle.std.proofs.Common.{arith}
use Rattle.diagram_statements.specs.Statements.{line_view}
use Rattle.diagram_plantuml.proofs.TextLoops.{first_region, next_region}
use Rattle.diagram_plantuml.proofs.region.region_in.Goals as goal

pub lines-init : goal.lines-init
lines-init c = first_region c.args.text.now

pub lines-preserved : goal.lines-preserved
lines-preserved c =
    next_region c.args.text.now _ _ _ _ _ (line_view c.first_line.result) c.lines.invariant (omega arith) c.first_line.ensures.line c.region_behind-region.ensures
    c.behind_line-rest.ensures.value (c.behind_line-rest.ensures.shorter (omega arith))
