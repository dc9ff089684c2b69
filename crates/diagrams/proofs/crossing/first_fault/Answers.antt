use Rattle.std.proofs.Common.{refl, sym, ◌∙◌}
use Rattle.diagrams.proofs.CrossingLemmas.{none_furthest, fault_more, furthest_more, fault_end}
use Rattle.diagrams.proofs.crossing.first_fault.Goals as goal

pub loop-place-init : goal.loop-place-init
loop-place-init c = (none_furthest _ c.in_ok-furthest.ensures, refl)

pub loop-place-preserved : goal.loop-place-preserved
loop-place-preserved c =
    let are = c.loop-place.invariant.0 in (
      furthest_more _ _ _ _ c.loop-place-test.true c.index-messages-place.is (c.add-first.ensures.furthest are),
      fault_more _ _ _ _ _ c.loop-place-test.true c.index-messages-place.is (c.add-first.ensures.fault are) ∙ c.loop-place.invariant.1,
    )

pub returns : goal.returns
returns c = sym (fault_end _ _ _ c.loop-place-test.false) ∙ c.loop-place.invariant.1
