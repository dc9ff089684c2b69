use Rattle.reordering.proofs.OtherRunsLemmas.Witnesses.{reordered, report_is, one_run}
use Rattle.reordering.proofs.other_runs.laws.real_races_law.Goals as goal

pub returns-clause-reordered : goal.returns-clause-reordered
returns-clause-reordered c = reordered

pub returns-clause-report : goal.returns-clause-report
returns-clause-report c = report_is

pub returns-clause-one_run : goal.returns-clause-one_run
returns-clause-one_run c = one_run
