use Rattle.std.proofs.Common.{◌≡◌}
use Rattle.example_timed_requests.proofs.by_hand.wait_for.Given as goal

abbrev pub invariant-loop : goal.invariant-loop
invariant-loop l = l.post.board ≡ l.fn.post.board
