use Rattle.std.proofs.Common.{◌≡◌, subst, arith}
use Rattle.std.specs.Prelude.{None}
use Rattle.c_board.specs.declared.handle.Handle.{Handle}
use Rattle.c_board.proofs.KeptLists.{full_there, empty_next, at_kept}
use Rattle.c_board.proofs.opening.are_empty.Goals as goal

pub returns-then-not-is_empty-clause-no : goal.returns-then-not-is_empty-clause-no
returns-then-not-is_empty-clause-no c = λ _. full_there c.args.handles.now c.loop-handle.handle-index c.handle-item.result c.loop-handle-test.true
    (subst (λ (handle : Handle). handle.slot.value ≡ None → ⊥) c.handle-item.is (c.is_empty.ensures.no c.if-not-is_empty.true))

pub loop-handle-preserved : goal.loop-handle-preserved
loop-handle-preserved c = empty_next c.args.handles.now c.loop-handle.handle-index c.handle-item.result c.loop-handle-test.true
    (subst (λ (handle : Handle). handle.slot.value ≡ None) c.handle-item.is (c.is_empty.ensures.yes c.if-not-is_empty.false)) c.loop-handle.invariant

pub returns-clause-yes : goal.returns-clause-yes
returns-clause-yes c = λ _ i kept there. c.loop-handle.invariant i kept (omega (arith, at_kept c.args.handles.now i kept there, c.loop-handle-test.false)) there
