use Rattle.std.proofs.Common.{List, sym, subst}
use Rattle.board.specs.Views.{PostView}
use Rattle.board.specs.Parked.{AreAtBoard}
use Rattle.test_board.proofs.parked.parked_calls.Goals as goal

pub exchange-requires : goal.exchange-requires
exchange-requires g c = subst (λ (posts : List PostView). AreAtBoard c.in_ok-table.table.shared.key c.in_ok-table.table.shared.table_id posts) (sym c.as_mut_slice.ensures.value) c.in_ok-table.ensures.ok.at
