use Rattle.repair.proofs.LimitLemmas.{not_stopped, far_limit, was_stopped}
use Rattle.repair.proofs.laws.limit_law.Goals as goal

pub returns-clause-same : goal.returns-clause-same
returns-clause-same _ = λ counted at_end limit tried lines end additions are. not_stopped are

pub returns-clause-far : goal.returns-clause-far
returns-clause-far _ = λ counted at_end lines end additions are. far_limit are

pub returns-clause-stopped : goal.returns-clause-stopped
returns-clause-stopped _ = λ counted at_end limit tried lines end additions are. was_stopped are
