use Rattle.std.proofs.Common.{Some, sym, ap, ◌∙◌}
use Rattle.diagrams.proofs.PlacingLemmas.{placed_more, placed_end, misplaced_here}
use Rattle.diagrams.proofs.placing.first_misplaced.Goals as goal

pub loop-item-preserved : goal.loop-item-preserved
loop-item-preserved c =
    placed_more _ _ _ _ _ _ c.loop-item-test.true c.item-item.is (sym c.may_stand.ensures ∙ c.if-not-may_stand.false) c.row_of-row.ensures ∙ c.loop-item.invariant

pub returns : goal.returns
returns c = sym (placed_end _ _ _ _ c.loop-item-test.false) ∙ c.loop-item.invariant

pub returns-then-not-may_stand : goal.returns-then-not-may_stand
returns-then-not-may_stand c = ap Some c.line_of.ensures ∙ sym (misplaced_here _ _ _ _ _ c.loop-item-test.true c.item-item.is (sym c.may_stand.ensures ∙ c.if-not-may_stand.true)) ∙ c.loop-item.invariant
