use Rattle.line_recorder.proofs.Charted.{new_recorder_knows, sender_knows, receiver_knows}
use Rattle.line_recorder.proofs.laws.knowledge_law.Goals as goal

pub returns-clause-new : goal.returns-clause-new
returns-clause-new c = new_recorder_knows

pub returns-clause-send : goal.returns-clause-send
returns-clause-send c = sender_knows

pub returns-clause-receive : goal.returns-clause-receive
returns-clause-receive c = receiver_knows
