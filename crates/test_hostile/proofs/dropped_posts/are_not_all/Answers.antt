use Rattle.board.proofs.OneBoard.{one_board-meets}
use Rattle.test_hostile.proofs.dropped_posts.are_not_all.Goals as goal

pub returns : goal.returns
returns g c = one_board-meets c.args.posts.now c.meet_all-met.new.posts c.meet_all-met.result c.meet_all-met.ensures.met c.requires
