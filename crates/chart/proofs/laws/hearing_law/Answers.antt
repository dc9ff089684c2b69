use Rattle.chart.proofs.Knowledge.{heard_at_first, heard_from_send, heard_at_send}
use Rattle.chart.proofs.laws.hearing_law.Goals as goal

pub returns-clause-first : goal.returns-clause-first
returns-clause-first c = heard_at_first

pub returns-clause-receive : goal.returns-clause-receive
returns-clause-receive c = heard_from_send

pub returns-clause-send : goal.returns-clause-send
returns-clause-send c = heard_at_send
