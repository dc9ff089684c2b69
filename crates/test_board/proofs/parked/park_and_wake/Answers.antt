use Rattle.std.proofs.Common.{List, sym, ◌∙◌, subst}
use Rattle.board.specs.Views.{PostView}
use Rattle.board.specs.Parked.{AreAtBoard}
use Rattle.test_board.proofs.parked.park_and_wake.Goals as goal

pub woken-posts-requires-in-Ok : goal.woken-posts-requires-in-Ok
woken-posts-requires-in-Ok g c = subst (λ (posts : List PostView). AreAtBoard c.in-Ok.table.shared.key c.in-Ok.table.shared.table_id posts) (sym (c.put_down-parked.ensures ∙ c.woken-posts.ensures)) c.in-Ok.ensures.ok.at
