use Rattle.std.proofs.Common.{arith}
use Rattle.diagram_plantuml.proofs.JointLoops.{first_place, next_place, place_at_end}
use Rattle.diagram_plantuml.proofs.joints.place_in.Goals as goal

pub lines-init : goal.lines-init
lines-init c = first_place c.args.source.now c.args.number c.args.column _ (omega arith) c.saturating_sub-before.ensures

pub lines-preserved : goal.lines-preserved
lines-preserved c =
    next_place c.args.source.now c.args.number c.args.column _ _ _ _ _ _ c.lines.invariant (omega arith) c.line_in.ensures.value c.in-Some.ensures (omega arith) c.behind_line-rest.ensures.value (c.behind_line-rest.ensures.shorter (omega arith))

pub returns : goal.returns
returns c = place_at_end c.args.source.now c.args.number c.args.column _ _ _ _ c.lines.invariant (omega arith) c.at-2.ensures
