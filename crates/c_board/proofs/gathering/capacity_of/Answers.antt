use Rattle.std.proofs.Common.{sym, ap, ◌∙◌}
use Rattle.board.specs.Views.{PostView}
use Rattle.c_board.proofs.Lists.{read_there}
use Rattle.c_board.proofs.gathering.capacity_of.Goals as goal

pub returns : goal.returns
returns c = λ post there. ap (λ (it : PostView). it.board.capacity) (read_there c.args.posts.now 0 post c.index-posts-0.result there c.index-posts-0.is) ∙ sym c.capacity.ensures
