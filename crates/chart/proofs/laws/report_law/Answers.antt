use Rattle.chart.proofs.Reports.{before_in_line, report_from_races}
use Rattle.chart.proofs.laws.report_law.Goals as goal

pub returns-clause-before : goal.returns-clause-before
returns-clause-before c = before_in_line

pub returns-clause-races : goal.returns-clause-races
returns-clause-races c = report_from_races
