use Rattle.std.proofs.Common.{length}
use Rattle.diagram_plantuml.proofs.JointLoops.{JoinedLeft}
use Rattle.diagram_plantuml.proofs.joints.joined_text.Given as goal

abbrev pub invariant-lines : goal.invariant-lines
invariant-lines l = JoinedLeft l.text l.joined.items l.joints l.rest

abbrev pub decreases-lines : goal.decreases-lines
decreases-lines l = length l.rest
