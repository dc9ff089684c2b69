use Rattle.std.proofs.Common.{sym, ◌∙◌}
use Rattle.diagrams.proofs.CrossingLemmas.{beside_more, beside_end}
use Rattle.diagrams.proofs.crossing.fault_with.Goals as goal

pub loop-other-preserved : goal.loop-other-preserved
loop-other-preserved c = beside_more _ _ _ _ _ _ c.loop-other-test.true c.other-item.is c.fault_beside-first.ensures ∙ c.loop-other.invariant

pub returns : goal.returns
returns c = sym (beside_end _ _ _ _ c.loop-other-test.false) ∙ c.loop-other.invariant
