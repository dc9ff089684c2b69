use Rattle.std.proofs.Common.{sym, ◌∙◌, []}
use Rattle.texts.specs.Lines.{words_of}
use Rattle.schedule.proofs.Adding.{are_words_by, empty_first, word_first}
use Rattle.schedule.proofs.first_lines.are_words.Goals as goal

pub returns-then-is_empty : goal.returns-then-is_empty
returns-then-is_empty c =
    let empty = empty_first (λ more. words_of more.now) c.next_word.result.1 _ _ c.next_word.ensures.words (sym c.if-is_empty.ensures) in
    sym (are_words_by _ _ (sym c.words.invariant ∙ empty))

pub returns-in-None : goal.returns-in-None
returns-in-None c =
    let last = word_first _ [] _ (rw c.in-None.is at c.next_word.ensures.words) (sym c.if-is_empty.ensures) in
    sym (are_words_by _ _ (sym c.words.invariant ∙ last))
