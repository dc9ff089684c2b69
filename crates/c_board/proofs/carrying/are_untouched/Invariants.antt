use Rattle.std.proofs.Common.{◌≡◌, ◌<◌, ℕ}
use Rattle.std.specs.Prelude.{slice_get, Some}
use Rattle.board.specs.Views.{PostView}
use Rattle.board.specs.LongRuns.CarryingOver.{IsUntouched}
use Rattle.c_board.proofs.carrying.are_untouched.Given as goal

abbrev pub invariant-loop-post : goal.invariant-loop-post
invariant-loop-post l = (i : ℕ) (post : PostView) → i < l.post-index → slice_get l.posts i ≡ Some post → IsUntouched post
