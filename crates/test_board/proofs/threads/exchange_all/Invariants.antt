use Rattle.std.proofs.Common.{◌≡◌}
use Rattle.test_board.proofs.threads.exchange_all.Given as goal

abbrev pub invariant-loop : goal.invariant-loop
invariant-loop g l = l.post.board ≡ l.fn.post.board
