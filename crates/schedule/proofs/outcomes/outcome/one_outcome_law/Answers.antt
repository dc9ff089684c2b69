use Rattle.schedule.proofs.OutcomesLemmas.Outcomes.{one_outcome}
use Rattle.schedule.proofs.outcomes.outcome.one_outcome_law.Goals as goal

pub returns : goal.returns
returns c = one_outcome
