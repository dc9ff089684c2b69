use Rattle.schedule_threads.proofs.OneRun.{one_run_outcome}
use Rattle.schedule_threads.proofs.laws.one_run_outcome_law.Goals as goal

pub returns : goal.returns
returns c = one_run_outcome
