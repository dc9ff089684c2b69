use Rattle.std.proofs.Common.{◌≡◌, map, filter}
use Rattle.log_lines.proofs.words.words_of.Given as goal
use Rattle.texts.specs.Lines.{is_word}

abbrev pub invariant-loop-word : goal.invariant-loop-word
invariant-loop-word l = map (λ w. w.now) l.words.items ≡ filter is_word (map (λ w. w.now) l.yielded)
