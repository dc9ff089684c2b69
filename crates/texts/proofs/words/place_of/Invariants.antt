use Rattle.std.proofs.Common.{◌≡◌, ◌+◌, length, option_map}
use Rattle.texts.specs.Words.{place_of}
use Rattle.texts.proofs.words.place_of.Given as goal

abbrev pub invariant-bytes : goal.invariant-bytes
invariant-bytes l = record {
  same : option_map (λ k. l.passed + k) (place_of l.known l.rest) ≡ place_of l.fn.known l.fn.bytes;
  within : l.passed + length l.rest ≡ length l.fn.bytes;
}

abbrev pub decreases-bytes : goal.decreases-bytes
decreases-bytes l = length l.rest
