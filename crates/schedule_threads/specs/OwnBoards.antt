-- Runs of a schedule's instances on a board of their own (this project's profile).
use Rattle.std.specs.Prelude.{◌≡◌, ◌≢◌, ℕ, ◌<◌, ◌≤◌, ◌⊎◌, List, length}
use Rattle.board.specs.Boards.{AreNewPosts}
use Rattle.board.specs.Views.{BoardView, PostView}
use Rattle.instances.specs.declared.outcome.Run.{Run}
use Rattle.instances.specs.declared.threads.TheConstants.{MAX_TURNS}
use Rattle.instances.specs.Whole.{Drives, AreRuns}
use Rattle.schedule.specs.Plans.{Plan}

-- Each post of a new board, which has the schedule's instances and lanes of its capacity, was driven in this way. The
-- outcome of the run is that of the remaining posts.
pub record AreRunsOf (does : Drives) (plan : Plan) (run : Run) : Type 0 where
  pub board : BoardView
  pub size : board.size ≡ length plan.names
  pub capacity : board.capacity ≡ plan.capacity
  pub posts : List PostView
  pub new : AreNewPosts board posts
  pub runs : AreRuns does posts run

-- the behaviours are one for each instance, and a run may have this many turns at most
pub record AreFitFor (plan : Plan) (behaviours turns : ℕ) : Type 0 where
  pub one_of_each : behaviours ≡ length plan.names
  pub some : (1 ≤ turns) × (turns ≤ MAX_TURNS)

-- the behaviours or the turns don't fit
abbrev pub AreInvalidFor : Plan → ℕ → ℕ → Type 0
AreInvalidFor plan behaviours turns = (behaviours ≢ length plan.names) ⊎ ((turns ≡ 0) ⊎ (MAX_TURNS < turns))
