use Rattle.reordering.proofs.CompletionLemmas.RunLemmas.{completed_kept, own_run}
use Rattle.reordering.proofs.completion.laws.run_law.Goals as goal

pub returns-clause-order : goal.returns-clause-order
returns-clause-order c = λ n d g run finishes e f is h begins come. completed_kept d g run.1.causes finishes is h begins come

pub returns-clause-own : goal.returns-clause-own
returns-clause-own c = own_run
