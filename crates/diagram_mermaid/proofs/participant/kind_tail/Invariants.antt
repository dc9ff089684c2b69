use Rattle.std.proofs.Common.{◌≡◌, length}
use Rattle.diagram_mermaid.specs.Participants.{kind_tail}
use Rattle.diagram_mermaid.proofs.participant.kind_tail.Given as goal

abbrev pub invariant-bytes : goal.invariant-bytes
invariant-bytes l = kind_tail l.rest ≡ kind_tail l.fn.bytes

abbrev pub decreases-bytes : goal.decreases-bytes
decreases-bytes l = length l.rest
