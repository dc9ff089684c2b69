use Rattle.std.proofs.Common.{◌≡◌, ◌+◌, length, option_map}
use Rattle.diagram_mermaid.specs.Signs.{first_sign, moved}
use Rattle.diagram_mermaid.proofs.sign.first_sign.Given as goal

abbrev pub invariant-bytes : goal.invariant-bytes
invariant-bytes l = record {
  same : option_map (moved l.before) (first_sign l.rest) ≡ first_sign l.fn.bytes;
  within : l.before + length l.rest ≡ length l.fn.bytes;
}

abbrev pub decreases-bytes : goal.decreases-bytes
decreases-bytes l = length l.rest
