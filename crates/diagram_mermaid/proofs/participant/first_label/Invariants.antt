use Rattle.std.proofs.Common.{◌≡◌, ◌+◌, length, option_map}
use Rattle.diagram_mermaid.specs.Participants.{first_label, moved}
use Rattle.diagram_mermaid.proofs.participant.first_label.Given as goal

abbrev pub invariant-bytes : goal.invariant-bytes
invariant-bytes l = record {
  same : option_map (moved l.before) (first_label l.last l.rest) ≡ first_label l.fn.first l.fn.bytes;
  within : l.before + length l.rest ≡ length l.fn.bytes;
}

abbrev pub decreases-bytes : goal.decreases-bytes
decreases-bytes l = length l.rest
