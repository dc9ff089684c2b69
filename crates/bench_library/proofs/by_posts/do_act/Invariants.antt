use Rattle.std.proofs.Common.{◌≡◌}
use Rattle.bench_library.proofs.by_posts.do_act.Given as goal

abbrev pub invariant-loop : goal.invariant-loop
invariant-loop l = l.post.board ≡ l.fn.post.board
