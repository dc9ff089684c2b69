use Rattle.std.proofs.Common.{◌≡◌, length}
use Rattle.texts.specs.Lines.{words_of}
use Rattle.schedule.specs.FirstLines.{with_words}
use Rattle.schedule.proofs.first_lines.add_words.Given as goal

abbrev pub invariant-words : goal.invariant-words
invariant-words l = with_words l.names (words_of l.rest) ≡ with_words l.initial.names (words_of l.words)

abbrev pub decreases-words : goal.decreases-words
decreases-words l = length l.rest
