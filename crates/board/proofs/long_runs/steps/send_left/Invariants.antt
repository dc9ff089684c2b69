use Rattle.std.proofs.Common.{◌≡◌, ℕ, ◌++◌, List, length, map}
use Rattle.std.specs.Vec.Iter.{into_iter_items, into_iter_len}
use Rattle.chart.specs.declared.history.Occurrence.{Occurrence}
use Rattle.board.specs.Views.{PostView}
use Rattle.board.specs.Gathering.{left_view}
use Rattle.board.specs.LongRuns.CarriedHistories.{all_again}
use Rattle.board.specs.LongRuns.CarryingSteps.{AreOn, MayGoOn}
use Rattle.board.proofs.long_runs.steps.send_left.Given as goal

abbrev pub invariant-loop-lane : goal.invariant-loop-lane
invariant-loop-lane l = record {
  all : l.yielded ++ into_iter_items l.lane-iterator ≡ into_iter_items l.initial.lane-iterator;
  rest : into_iter_len l.lane-iterator ≡ length (into_iter_items l.lane-iterator);
  on : (n k : ℕ) (h : List Occurrence) (old : List PostView) → MayGoOn n k h (all_again (map left_view (into_iter_items l.initial.lane-iterator)) ++ h) old l.initial.posts
      → AreOn n k (all_again (map left_view l.yielded) ++ h) old l.posts;
}
