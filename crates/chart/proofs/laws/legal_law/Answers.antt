use Rattle.chart.proofs.Sends.{none_without_send, none_of_other_name, sends_of}
use Rattle.chart.proofs.Cycles.{acyclic}
use Rattle.chart.proofs.laws.legal_law.Goals as goal

pub returns-clause-send : goal.returns-clause-send
returns-clause-send c = none_without_send

pub returns-clause-name : goal.returns-clause-name
returns-clause-name c = none_of_other_name

pub returns-clause-belongs : goal.returns-clause-belongs
returns-clause-belongs c = sends_of

pub returns-clause-acyclic : goal.returns-clause-acyclic
returns-clause-acyclic c = acyclic
