use Rattle.std.proofs.Common.{◌≡◌}
use Rattle.example_timed_requests.proofs.by_hand.log.Given as goal

abbrev pub invariant-loop : goal.invariant-loop
invariant-loop l = l.mailbox.post.board ≡ l.fn.post.board
