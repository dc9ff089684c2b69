use Rattle.chart.proofs.Sends.{newest_belongs}
use Rattle.chart.proofs.Steps.{new_receive_hears, new_receive_reports}
use Rattle.chart.proofs.laws.new_receive_law.Goals as goal

pub returns-clause-belongs : goal.returns-clause-belongs
returns-clause-belongs c = newest_belongs

pub returns-clause-hearing : goal.returns-clause-hearing
returns-clause-hearing c = new_receive_hears

pub returns-clause-report : goal.returns-clause-report
returns-clause-report c = new_receive_reports
