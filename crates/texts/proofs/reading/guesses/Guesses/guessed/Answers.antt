use Rattle.std.proofs.Common.{◌∙◌, sym}
use Rattle.texts.proofs.Results.{name_again}
use Rattle.texts.proofs.ReadingLemmas.NamedWords.{found_at}
use Rattle.texts.proofs.reading.guesses.Guesses.guessed.Goals as goal

pub returns-in-Some : goal.returns-in-Some
returns-in-Some c = (
  name_again c.args.word.now (c.is_word.ensures.name c.if-is_word.true),
  found_at c.args.names.now c.args.word.now c.in-Some.name c.at_place-instance.result _ c.len.ensures.names c.at_place-instance.ensures (sym (c.name.ensures _ c.at_place-instance.ensures) ∙ c.in-Some.is) (c.is_word.ensures.same c.if-is_word.true),
)
