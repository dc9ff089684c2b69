use Rattle.line_recorder.proofs.Carrying.{clocks_many, carried_knowledge, carried_entries, carried_clock, carried_report}
use Rattle.line_recorder.proofs.laws.history_law.Goals as goal

pub returns-clause-knowledge : goal.returns-clause-knowledge
returns-clause-knowledge c = carried_knowledge

pub returns-clause-many : goal.returns-clause-many
returns-clause-many c = clocks_many

pub returns-clause-entries : goal.returns-clause-entries
returns-clause-entries c = carried_entries

pub returns-clause-clock : goal.returns-clause-clock
returns-clause-clock c = carried_clock

pub returns-clause-report : goal.returns-clause-report
returns-clause-report c = carried_report
