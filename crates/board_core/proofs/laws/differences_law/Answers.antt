use Rattle.board_core.proofs.Differing.{exist, restore, know, runs}
use Rattle.board_core.proofs.laws.differences_law.Goals as goal

pub returns-clause-exist : goal.returns-clause-exist
returns-clause-exist c = exist

pub returns-clause-restore : goal.returns-clause-restore
returns-clause-restore c = restore

pub returns-clause-know : goal.returns-clause-know
returns-clause-know c = know

pub returns-clause-runs : goal.returns-clause-runs
returns-clause-runs c = runs
