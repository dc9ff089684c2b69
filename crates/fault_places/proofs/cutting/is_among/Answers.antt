use Rattle.std.proofs.Common.{sym, ◌∙◌}
use Rattle.fault_places.proofs.SpotLemmas.{among_none}
use Rattle.fault_places.proofs.cutting.is_among.Goals as goal

pub returns-in_default : goal.returns-in_default
returns-in_default c =
    let last = rw c.in_default.is at c.cut_word.ensures.words in
    sym (among_none _ _ c.words.left _ c.words-test.true last (sym c.is.ensures ∙ c.if-is.false)) ∙ c.words.invariant
