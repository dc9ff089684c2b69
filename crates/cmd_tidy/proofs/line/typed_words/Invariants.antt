use Rattle.std.proofs.Common.{◌≡◌, map, filter}
use Rattle.texts.specs.Lines.{is_word}
use Rattle.cmd_tidy.proofs.line.typed_words.Given as goal

abbrev pub invariant-loop-word : goal.invariant-loop-word
invariant-loop-word l = map (λ w. w.now) l.words.items ≡ filter is_word (map (λ w. w.now) l.yielded)
