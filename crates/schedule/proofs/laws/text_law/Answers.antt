use Rattle.schedule.proofs.FirstFault.{first_fault}
use Rattle.schedule.proofs.Read.{one_text}
use Rattle.schedule.proofs.laws.text_law.Goals as goal

pub returns-clause-first_fault : goal.returns-clause-first_fault
returns-clause-first_fault c = first_fault

pub returns-clause-one_text : goal.returns-clause-one_text
returns-clause-one_text c = one_text
