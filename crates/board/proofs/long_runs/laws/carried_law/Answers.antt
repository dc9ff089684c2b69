use Rattle.board.proofs.LongRunsLemmas.CarriedOver.{were_legal, lanes_as_left}
use Rattle.board.proofs.long_runs.laws.carried_law.Goals as goal

pub returns-clause-legal : goal.returns-clause-legal
returns-clause-legal c = were_legal

pub returns-clause-lanes : goal.returns-clause-lanes
returns-clause-lanes c = lanes_as_left
