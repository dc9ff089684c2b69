use Rattle.board_core.proofs.Knowledge.{legal, lanes, clocks, reports, recorders}
use Rattle.board_core.proofs.laws.every_run.Goals as goal

pub returns-clause-legal : goal.returns-clause-legal
returns-clause-legal c = legal

pub returns-clause-lanes : goal.returns-clause-lanes
returns-clause-lanes c = lanes

pub returns-clause-clocks : goal.returns-clause-clocks
returns-clause-clocks c = clocks

pub returns-clause-reports : goal.returns-clause-reports
returns-clause-reports c = reports

pub returns-clause-recorders : goal.returns-clause-recorders
returns-clause-recorders c = recorders
