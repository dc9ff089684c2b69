use Rattle.std.proofs.Common.{◌≡◌}
use Rattle.example_tour.proofs.threads.listen.Given as goal

abbrev pub invariant-loop : goal.invariant-loop
invariant-loop l = l.post.board ≡ l.fn.post.board
