use Rattle.std.proofs.Common.{ap, ◌∙◌, ◌∷◌}
use Rattle.texts.specs.Lines.{words_of}
use Rattle.schedule.specs.Keywords.{written}
use Rattle.schedule.specs.declared.keyword.ScheduleWord.TheVariants as keywords
use Rattle.schedule.proofs.KnownLines.{behind_send}
use Rattle.schedule.proofs.known_line.send_words.Goals as goal

pub returns : goal.returns
returns c =
    let words = rw c.in-Some.is at c.next_word.ensures.words in
    ap words_of c.in_ok-rest.ensures ∙ behind_send c.in_ok-rest.rest.now ∙ ap (λ l. written keywords.Send ∷ l) words
