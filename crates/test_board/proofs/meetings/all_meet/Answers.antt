use Rattle.board.proofs.OneBoard.{one_board-meets}
use Rattle.test_board.proofs.meetings.all_meet.Goals as goal

pub returns : goal.returns
returns g c = one_board-meets c.args.posts.now c.meet_all.new.posts c.meet_all.result c.meet_all.ensures.met c.requires
