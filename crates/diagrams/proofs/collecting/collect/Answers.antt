use Rattle.std.proofs.Common.{refl, sym, ◌∙◌}
use Rattle.diagrams.specs.Collecting.{collected}
use Rattle.diagrams.proofs.ItemLemmas.{item_more, items_end}
use Rattle.diagrams.proofs.collecting.collect.Goals as goal

pub loop-number-preserved : goal.loop-number-preserved
loop-number-preserved c =
    item_more _ _ _ _ _ _ c.loop-number-test.true c.index-items-number.is c.in_ok-add.ensures ∙ c.loop-number.invariant

pub returns : goal.returns
unfolding collected
returns c =
    sym (items_end _ _ _ _ c.loop-number-test.false) ∙ c.loop-number.invariant ∙ rw (c.new.ensures.items, c.new-2.ensures.items, c.first_misplaced.ensures, c.len.ensures.value) refl
