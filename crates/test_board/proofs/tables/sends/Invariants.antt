use Rattle.std.proofs.Common.{◌≡◌}
use Rattle.test_board.proofs.tables.sends.Given as goal

abbrev pub invariant-loop-letter : goal.invariant-loop-letter
invariant-loop-letter g l = l.post.board ≡ l.fn.post.board
