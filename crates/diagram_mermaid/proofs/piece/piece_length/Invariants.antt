use Rattle.std.proofs.Common.{◌≡◌, ◌+◌, length}
use Rattle.diagram_mermaid.specs.Pieces.{piece_length}
use Rattle.diagram_mermaid.proofs.piece.piece_length.Given as goal

abbrev pub invariant-bytes : goal.invariant-bytes
invariant-bytes l = record {
  same : l.passed + piece_length l.within l.rest ≡ piece_length 0 l.fn.bytes;
  within : l.passed + length l.rest ≡ length l.fn.bytes;
}

abbrev pub decreases-bytes : goal.decreases-bytes
decreases-bytes l = length l.rest
