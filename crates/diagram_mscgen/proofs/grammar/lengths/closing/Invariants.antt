use Rattle.std.proofs.Common.{◌≡◌, ◌+◌, length, option_map}
use Rattle.diagram_mscgen.specs.Grammar.Lengths.{closing}
use Rattle.diagram_mscgen.proofs.grammar.lengths.closing.Given as goal

abbrev pub invariant-bytes : goal.invariant-bytes
invariant-bytes l = record {
  same : option_map (λ k. l.passed + k) (closing l.before l.rest) ≡ closing l.fn.first l.fn.bytes;
  within : l.passed + length l.rest ≡ length l.fn.bytes;
}

abbrev pub decreases-bytes : goal.decreases-bytes
decreases-bytes l = length l.rest
