use Rattle.std.proofs.Common.{refl}
use Rattle.board.proofs.OneBoard.{one_board-front}
use Rattle.test_board.proofs.calls.apart.Goals as goal

pub returns : goal.returns
returns c = one_board-front c.args.posts.items c.pop-last.new.self.items _ _ c.pop-last.ensures.items refl c.requires
