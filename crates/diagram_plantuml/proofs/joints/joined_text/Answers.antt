use Rattle.std.proofs.Common.{arith}
use Rattle.diagram_plantuml.proofs.JointLoops.{first_joined, next_joined, all_joined}
use Rattle.diagram_plantuml.proofs.joints.joined_text.Goals as goal

pub lines-init : goal.lines-init
lines-init c = first_joined c.args.text.now _ c.new-joined.ensures.items

pub add_line-requires : goal.add_line-requires
add_line-requires c = omega arith

pub lines-smaller : goal.lines-smaller
lines-smaller c = c.behind_line-rest.ensures.shorter (omega arith)

pub lines-preserved : goal.lines-preserved
lines-preserved c =
    next_joined c.args.text.now _ _ _ _ _ _ _ c.lines.invariant (omega arith) c.line_in.ensures.value (c.in_ok-joints.ensures).bytes (c.in_ok-joints.ensures).joints
    (c.in_ok-joints.ensures).room c.behind_line-rest.ensures.value (c.behind_line-rest.ensures.shorter (omega arith))

pub returns : goal.returns
returns c = all_joined c.args.text.now _ _ _ _ c.lines.invariant (omega arith) c.in_ok-add_line_feeds.ensures
