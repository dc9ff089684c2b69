use Rattle.board.proofs.OneBoard.{one_board-met}
use Rattle.test_board.proofs.meetings.they_meet.Goals as goal

pub returns : goal.returns
returns c = one_board-met c.args.posts.now c.meet.new.posts c.meet.ensures.met c.requires
