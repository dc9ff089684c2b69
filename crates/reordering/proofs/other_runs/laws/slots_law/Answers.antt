use Rattle.reordering.proofs.OtherRunsLemmas.Slots.{witness_within, reordered_within, order_within}
use Rattle.reordering.proofs.other_runs.laws.slots_law.Goals as goal

pub returns-clause-order : goal.returns-clause-order
returns-clause-order c = λ n k d g run e r before h begins come. order_within n k d g run h begins before come

pub returns-clause-witness : goal.returns-clause-witness
returns-clause-witness c = witness_within

pub returns-clause-reordered : goal.returns-clause-reordered
returns-clause-reordered c = reordered_within
