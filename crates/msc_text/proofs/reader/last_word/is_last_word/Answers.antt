use Rattle.std.proofs.Common.{sym, ◌∙◌}
use Rattle.std.proofs.lemmas.Bool.{ne_eqb}
use Rattle.msc_text.proofs.ReaderLemmas.LastWords.{last_word-is, last_word-other}
use Rattle.msc_text.proofs.reader.last_word.is_last_word.Goals as goal

pub returns-then-last-eq59 : goal.returns-then-last-eq59
returns-then-last-eq59 c = c.eq.ensures ∙ last_word-is c.args.word.now c.args.front.now c.in-len1-up.len_at_least c.if-last-eq59.true

pub returns-else-last-eq59 : goal.returns-else-last-eq59
returns-else-last-eq59 c = ne_eqb _ _ c.if-last-eq59.false ∙ sym (last_word-other c.args.word.now c.args.front.now c.if-last-eq59.false)
