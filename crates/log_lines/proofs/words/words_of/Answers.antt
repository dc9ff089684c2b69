use Rattle.std.proofs.Common.{ap, ◌∙◌, rules, filter}
use Rattle.std.proofs.lemmas.Iterator.Splits.{YieldsList-from_slice_split}
use Rattle.std.proofs.lemmas.Iterator.Consumers.{YieldsList-end}
use Rattle.texts.specs.Bytes.Classes.{is_blank}
use Rattle.log_lines.specs.Words.{words_of}
use Rattle.log_lines.proofs.words.words_of.Goals as goal
use Rattle.texts.specs.Lines.{is_word}

pub returns : goal.returns
unfolding words_of
returns c =
    let parts = YieldsList-from_slice_split _ (λ b. is_blank b) c.args.line.now (search rules) (search rules) (search rules) (λ x b q k. search rules) in
    let t = YieldsList-end parts c.loop-word.yielded _ c.loop-word.yielded_by _ _ c.in-None.is c.next.ensures.steps in
    c.loop-word.invariant ∙ ap (filter is_word) t.0
