use Rattle.schedule.proofs.OutcomesLemmas.Outcomes.{possible_outcome}
use Rattle.schedule.proofs.outcomes.outcome.possible_outcome_law.Goals as goal

pub returns : goal.returns
returns c = possible_outcome
