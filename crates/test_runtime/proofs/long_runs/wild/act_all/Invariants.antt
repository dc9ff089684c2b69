use Rattle.board.specs.Views.{BoardView}
use Rattle.test_runtime.specs.LongRuns.Boards.{AreAt}
use Rattle.test_runtime.proofs.long_runs.wild.act_all.Given as goal

abbrev pub invariant-loop : goal.invariant-loop
invariant-loop g l = (board : BoardView) → AreAt board l.fn.posts → AreAt board l.posts
