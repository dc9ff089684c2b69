use Rattle.std.proofs.Common.{◌≡◌, length}
use Rattle.diagram_plantuml_statements.specs.Participants.{decorated}
use Rattle.diagram_plantuml_statements.proofs.participant.decorated.Given as goal

abbrev pub invariant-bytes : goal.invariant-bytes
invariant-bytes l = decorated l.within l.rest ≡ decorated 0 l.fn.bytes

abbrev pub decreases-bytes : goal.decreases-bytes
decreases-bytes l = length l.rest
