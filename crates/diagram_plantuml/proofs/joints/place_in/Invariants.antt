use Rattle.std.proofs.Common.{length}
use Rattle.diagram_plantuml.proofs.JointLoops.{PlaceLeft}
use Rattle.diagram_plantuml.proofs.joints.place_in.Given as goal

abbrev pub invariant-lines : goal.invariant-lines
invariant-lines l = PlaceLeft l.source l.number l.column l.line l.before l.rest

abbrev pub decreases-lines : goal.decreases-lines
decreases-lines l = length l.rest
