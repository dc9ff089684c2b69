use Rattle.board.specs.LongRuns.CarryingSteps.{AreReserved}
use Rattle.board.proofs.long_runs.carrying.reserve_sends.Given as goal

abbrev pub invariant-loop-place : goal.invariant-loop-place
invariant-loop-place l = AreReserved l.sends l.place l.fn.posts l.posts
