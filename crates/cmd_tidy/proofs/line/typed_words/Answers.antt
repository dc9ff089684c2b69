use Rattle.std.proofs.Common.{ap, ◌∙◌, rules, filter}
use Rattle.std.specs.List.{slice_split}
use Rattle.std.proofs.lemmas.Iterator.Splits.{YieldsList-from_slice_split}
use Rattle.std.proofs.lemmas.Iterator.Consumers.{YieldsList-end}
use Rattle.texts.specs.Bytes.Classes.{is_blank}
use Rattle.cmd_tidy.specs.Typing.{typed_words}
use Rattle.texts.specs.Lines.{is_word}
use Rattle.cmd_tidy.proofs.line.typed_words.Goals as goal

pub returns : goal.returns
unfolding typed_words
returns c =
    let parts = YieldsList-from_slice_split _ (λ b. is_blank b) c.uncommented.result.now (search rules) (search rules) (search rules) (λ x b q k. search rules) in
    let t = YieldsList-end parts c.loop-word.yielded _ c.loop-word.yielded_by _ _ c.in-None.is c.next.ensures.steps in
    c.loop-word.invariant ∙ ap (filter is_word) t.0 ∙ ap (λ l. filter is_word (slice_split is_blank l)) c.uncommented.ensures
