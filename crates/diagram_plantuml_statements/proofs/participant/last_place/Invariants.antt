use Rattle.std.proofs.Common.{◌≡◌, ◌≤◌, ◌+◌, length, IfSome}
use Rattle.diagram_plantuml_statements.specs.Participants.{last_place}
use Rattle.diagram_plantuml_statements.proofs.PlaceLoops.{last_of}
use Rattle.diagram_plantuml_statements.proofs.participant.last_place.Given as goal

abbrev pub invariant-bytes : goal.invariant-bytes
invariant-bytes l = record {
  same : last_of l.passed l.last (last_place l.known l.rest) ≡ last_place l.known l.fn.bytes;
  counted : l.passed + length l.rest ≡ length l.fn.bytes;
  within : IfSome l.last (λ place. place + length l.known ≤ length l.fn.bytes);
}

abbrev pub decreases-bytes : goal.decreases-bytes
decreases-bytes l = length l.rest
