use Rattle.std.proofs.Common.{sym, ◌∙◌, ap}
use Rattle.std.proofs.lemmas.Result.{err_from_is_err_and}
use Rattle.texts.specs.Faults.{in_line}
use Rattle.texts.specs.Lines.{words_of}
use Rattle.schedule.specs.FirstLines.{with_words}
use Rattle.schedule.proofs.Adding.{words_end, words_go_on, words_stop}
use Rattle.schedule.proofs.first_lines.add_words.Goals as goal

pub returns-in_err-add_word : goal.returns-in_err-add_word
returns-in_err-add_word c =
    let p = err_from_is_err_and c.from_residual.result c.from_residual.ensures.1 in
    rw (p.1, p.2) (words_stop (λ more. words_of more.now) c.in_err-add_word.field-0.0 c.words.names c.next_word.result.1 _ _ _ c.next_word.ensures.words c.words.invariant c.in_err-add_word.ensures)

pub returns-in-None : goal.returns-in-None
returns-in-None c =
    let last = rw c.in-None.is at c.next_word.ensures.words in
    ap (in_line 1) (sym c.words.invariant ∙ ap (with_words c.words.names) last ∙ words_end c.words.names c.add_word.new.names _ c.in_ok-add_word.ensures)

pub words-preserved : goal.words-preserved
words-preserved c =
    let more = rw c.in-Some.is at c.next_word.ensures.words in
    sym (words_go_on c.words.names c.add_word.new.names _ _ c.in_ok-add_word.ensures) ∙ sym (ap (with_words c.words.names) more) ∙ c.words.invariant
