use Rattle.std.proofs.Common.{◌≡◌, map, drop}
use Rattle.texts.specs.Words.{behind_keyword_of}
use Rattle.texts.proofs.words.behind_keyword_of.Given as goal

abbrev pub invariant-loop-known : goal.invariant-loop-known
invariant-loop-known l =
    behind_keyword_of (map (λ k. k.now) (drop l.known-index l.words)) l.bytes ≡ behind_keyword_of (map (λ k. k.now) l.words) l.bytes
