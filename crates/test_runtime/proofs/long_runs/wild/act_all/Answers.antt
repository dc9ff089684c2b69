use Rattle.std.proofs.Common.{arith}
use Rattle.test_runtime.proofs.LongRunsLemmas.BoardLemmas.{at_put}
use Rattle.test_runtime.proofs.long_runs.wild.act_all.Goals as goal

pub loop-preserved : goal.loop-preserved
loop-preserved g c = λ board at. at_put board c.loop.posts _ _ c.act.new.post (c.loop.invariant board at) (omega arith) c.act.ensures
