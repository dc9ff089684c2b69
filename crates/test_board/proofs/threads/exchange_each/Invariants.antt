use Rattle.std.proofs.Common.{◌≡◌}
use Rattle.test_board.proofs.threads.exchange_each.Given as goal

abbrev pub invariant-loop-place : goal.invariant-loop-place
invariant-loop-place g l = l.post.board ≡ l.fn.post.board
