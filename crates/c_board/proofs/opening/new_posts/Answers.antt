use Rattle.std.proofs.Common.{sym, subst}
use Rattle.board.specs.Parked.{IsAtBoard}
use Rattle.c_board.proofs.opening.new_posts.Goals as goal

pub boxed_posts-requires : goal.boxed_posts-requires
boxed_posts-requires c = λ i post there. subst (λ table. IsAtBoard table.shared.key table.shared.table_id post) (sym c.in-Ok-new.ensures.ok) (c.in-Ok.ensures.ok.at i post there)
