use Rattle.std.proofs.Common.{arith}
use Rattle.test_runtime.proofs.LongRunsLemmas.BoardLemmas.{at_put}
use Rattle.test_runtime.proofs.long_runs.worked.do_all.Goals as goal

pub loop-by-preserved : goal.loop-by-preserved
loop-by-preserved g c = λ board at. at_put board c.loop-by.posts _ _ c.does.new.post (c.loop-by.invariant board at) (omega arith) c.does.ensures
