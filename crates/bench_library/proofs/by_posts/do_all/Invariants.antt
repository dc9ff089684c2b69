use Rattle.std.proofs.Common.{◌≡◌}
use Rattle.bench_library.proofs.by_posts.do_all.Given as goal

abbrev pub invariant-loop-act : goal.invariant-loop-act
invariant-loop-act l = l.post.board ≡ l.fn.post.board
