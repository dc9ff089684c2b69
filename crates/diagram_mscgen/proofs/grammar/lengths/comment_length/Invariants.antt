use Rattle.std.proofs.Common.{◌≡◌, ◌+◌, length}
use Rattle.diagram_mscgen.specs.Grammar.Lengths.{comment_length}
use Rattle.diagram_mscgen.proofs.grammar.lengths.comment_length.Given as goal

abbrev pub invariant-bytes : goal.invariant-bytes
invariant-bytes l = record {
  same : l.passed + comment_length l.rest ≡ comment_length l.fn.bytes;
  within : l.passed + length l.rest ≡ length l.fn.bytes;
}

abbrev pub decreases-bytes : goal.decreases-bytes
decreases-bytes l = length l.rest
