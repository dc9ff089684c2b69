use Rattle.std.proofs.Common.{List, sym, subst}
use Rattle.board.specs.Views.{PostView}
use Rattle.board.specs.Parked.{AreAtBoard}
use Rattle.test_board.proofs.parked.woken.Goals as goal

pub wake_all-requires-in-Err : goal.wake_all-requires-in-Err
wake_all-requires-in-Err g c = record { board = subst (λ (posts : List PostView). AreAtBoard c.args.words.now.key c.args.words.now.table_id posts) (sym c.in-Err.ensures.err) c.requires }
