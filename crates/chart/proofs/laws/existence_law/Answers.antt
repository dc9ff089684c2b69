use Rattle.chart.proofs.Existence.{known_once, heard_once, report_once}
use Rattle.chart.proofs.laws.existence_law.Goals as goal

pub returns-clause-knowledge : goal.returns-clause-knowledge
returns-clause-knowledge c = known_once

pub returns-clause-hearing : goal.returns-clause-hearing
returns-clause-hearing c = heard_once

pub returns-clause-report : goal.returns-clause-report
returns-clause-report c = report_once
