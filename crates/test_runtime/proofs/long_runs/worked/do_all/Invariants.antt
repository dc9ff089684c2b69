use Rattle.board.specs.Views.{BoardView}
use Rattle.test_runtime.specs.LongRuns.Boards.{AreAt}
use Rattle.test_runtime.proofs.long_runs.worked.do_all.Given as goal

abbrev pub invariant-loop-by : goal.invariant-loop-by
invariant-loop-by g l = (board : BoardView) → AreAt board l.fn.posts → AreAt board l.posts
