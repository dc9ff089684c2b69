use Rattle.std.proofs.Common.{◌≡◌, length}
use Rattle.std.specs.List.{list_all}
use Rattle.texts.specs.Lines.{words_of, is_word}
use Rattle.schedule.proofs.first_lines.are_words.Given as goal

abbrev pub invariant-words : goal.invariant-words
invariant-words l = list_all is_word (words_of l.rest) ≡ list_all is_word (words_of l.line)

abbrev pub decreases-words : goal.decreases-words
decreases-words l = length l.rest
