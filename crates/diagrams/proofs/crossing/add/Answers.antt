use Rattle.std.proofs.Common.{sym, ◌∙◌}
use Rattle.diagrams.proofs.CrossingLemmas.{fault_stays, fault_known}
use Rattle.diagrams.proofs.crossing.add.Goals as goal

pub returns-then-not-crosses-clause-fault : goal.returns-then-not-crosses-clause-fault
returns-then-not-crosses-clause-fault c = λ are. sym (fault_stays _ _ _ (sym (c.crosses.ensures.value _ are) ∙ c.if-not-crosses.true))

pub returns-then-is_known-clause-fault : goal.returns-then-is_known-clause-fault
returns-then-is_known-clause-fault c = λ are. sym (fault_known _ _ _ (sym c.is_known.ensures ∙ c.if-is_known.true))
