use Rattle.chart.proofs.Begun.{legal_begun, chart_event_begun, send_begun, belongs_begun, before_begun, known_begun, report_begun, heard_begun}
use Rattle.chart.proofs.laws.growth_law.Goals as goal

pub returns-clause-legal : goal.returns-clause-legal
returns-clause-legal c = legal_begun

pub returns-clause-place : goal.returns-clause-place
returns-clause-place c = chart_event_begun

pub returns-clause-send : goal.returns-clause-send
returns-clause-send c = send_begun

pub returns-clause-belonging : goal.returns-clause-belonging
returns-clause-belonging c = belongs_begun

pub returns-clause-order : goal.returns-clause-order
returns-clause-order c = before_begun

pub returns-clause-knowledge : goal.returns-clause-knowledge
returns-clause-knowledge c = known_begun

pub returns-clause-report : goal.returns-clause-report
returns-clause-report c = report_begun

pub returns-clause-hearing : goal.returns-clause-hearing
returns-clause-hearing c = heard_begun
