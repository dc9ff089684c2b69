use Rattle.cmd_tidy.proofs.Charts.{chart_exact}
use Rattle.cmd_tidy.proofs.Schedules.{schedule_exact}
use Rattle.cmd_tidy.proofs.laws.exact_law.Goals as goal

pub returns-clause-schedules : goal.returns-clause-schedules
returns-clause-schedules c = schedule_exact

pub returns-clause-charts : goal.returns-clause-charts
returns-clause-charts c = chart_exact
