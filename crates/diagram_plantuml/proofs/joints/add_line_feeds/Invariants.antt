use Rattle.std.proofs.Common.{◌≡◌, ◌++◌}
use Rattle.diagram_plantuml.specs.Joints.{line_feeds}
use Rattle.diagram_plantuml.proofs.joints.add_line_feeds.Given as goal

abbrev pub invariant-loop-line : goal.invariant-loop-line
invariant-loop-line l = l.bytes.items ≡ l.fn.bytes.items ++ line_feeds l.line
