use Rattle.std.proofs.Common.{[], ◌∷◌, refl, sym, ◌∙◌}
use Rattle.diagrams.proofs.FullLemmas.{none_loaded, full_here, full_more, full_end}
use Rattle.diagrams.proofs.full.first_full.Goals as goal

pub loop-message-init : goal.loop-message-init
loop-message-init c = ([], none_loaded _ c.in_ok-loads.ensures, refl)

pub returns-then-branch : goal.returns-then-branch
returns-then-branch c =
    let earlier = c.loop-message.invariant.0 in
    sym (full_here earlier _ _ _ _ c.loop-message-test.true c.message-item.is (c.in_ok-add.ensures.full earlier c.loop-message.invariant.1) c.if-branch.true) ∙ c.loop-message.invariant.2

pub loop-message-preserved : goal.loop-message-preserved
loop-message-preserved c =
    let earlier = c.loop-message.invariant.0 in
    let are = c.loop-message.invariant.1 in (
      c.message-item.result ∷ earlier,
      c.in_ok-add.ensures.loads earlier are,
      full_more earlier _ _ _ _ c.loop-message-test.true c.message-item.is (c.in_ok-add.ensures.full earlier are) c.if-branch.false ∙ c.loop-message.invariant.2,
    )

pub returns : goal.returns
returns c = sym (full_end c.loop-message.invariant.0 _ _ c.loop-message-test.false) ∙ c.loop-message.invariant.2
