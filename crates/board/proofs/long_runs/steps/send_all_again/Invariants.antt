use Rattle.std.proofs.Common.{◌≡◌, ℕ, ◌++◌, List, length}
use Rattle.std.specs.Vec.Iter.{into_iter_items, into_iter_len}
use Rattle.chart.specs.declared.history.Occurrence.{Occurrence}
use Rattle.board.specs.Views.{PostView}
use Rattle.board.specs.Sending.{sends_of}
use Rattle.board.specs.LongRuns.CarryingSteps.{AreOn, MayGoOn}
use Rattle.board.proofs.long_runs.steps.send_all_again.Given as goal

abbrev pub invariant-loop-message : goal.invariant-loop-message
invariant-loop-message l = record {
  all : l.yielded ++ into_iter_items l.message-iterator ≡ into_iter_items l.initial.message-iterator;
  rest : into_iter_len l.message-iterator ≡ length (into_iter_items l.message-iterator);
  on : (n k : ℕ) (h : List Occurrence) (old : List PostView) → MayGoOn n k h (sends_of l.sender l.receiver (into_iter_items l.initial.message-iterator) ++ h) old l.initial.posts
      → AreOn n k (sends_of l.sender l.receiver l.yielded ++ h) old l.posts;
}
