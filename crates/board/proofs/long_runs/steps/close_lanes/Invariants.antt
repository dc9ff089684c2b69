use Rattle.std.proofs.Common.{ℕ, ◌++◌, List, map, take}
use Rattle.chart.specs.declared.history.Occurrence.{Occurrence}
use Rattle.board.specs.Views.{PostView}
use Rattle.board.specs.Gathering.{closed_view}
use Rattle.board.specs.LongRuns.CarriedHistories.{closes_again}
use Rattle.board.specs.LongRuns.CarryingSteps.{AreOn, MayGoOn}
use Rattle.board.proofs.long_runs.steps.close_lanes.Given as goal

abbrev pub invariant-loop-lane : goal.invariant-loop-lane
invariant-loop-lane l = (n k : ℕ) (h : List Occurrence) (old : List PostView) → MayGoOn n k h (closes_again (map closed_view l.closed) ++ h) old l.initial.posts
    → AreOn n k (closes_again (map closed_view (take l.lane-index l.closed)) ++ h) old l.posts
