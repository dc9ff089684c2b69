use Rattle.std.proofs.Common.{◌≡◌}
use Rattle.example_timed_requests.proofs.by_hand.serve.Given as goal

abbrev pub invariant-loop-request : goal.invariant-loop-request
invariant-loop-request l = l.post.board ≡ l.fn.post.board
