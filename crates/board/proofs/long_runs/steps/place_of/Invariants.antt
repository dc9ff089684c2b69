use Rattle.std.proofs.Common.{◌≡◌, ◌<◌, ℕ}
use Rattle.std.specs.Prelude.{◌≢◌, slice_get, Some}
use Rattle.board.specs.Views.{PostView}
use Rattle.board.proofs.long_runs.steps.place_of.Given as goal

abbrev pub invariant-loop-place : goal.invariant-loop-place
invariant-loop-place l = (i : ℕ) (post : PostView) → i < l.place → slice_get l.posts i ≡ Some post → post.number ≢ l.number
