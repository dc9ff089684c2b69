use Rattle.board_core.proofs.Reaching.{every_history}
use Rattle.board_core.proofs.laws.every_history.Goals as goal

pub returns : goal.returns
returns c = every_history
