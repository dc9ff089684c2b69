-- The run that a schedule's accepted commands make (this project's profile).
use Rattle.std.specs.Prelude.{◌≡◌, ℕ, List, [], ◌∷◌, length, Option}
use Rattle.board.specs.Views.{BoardView, PostView}
use Rattle.chart.specs.declared.history.Occurrence.{Occurrence}
use Rattle.chart.specs.declared.history.Occurrence.TheVariants.{Send, Receive, Close}
use Rattle.chart.specs.Histories.{chart_of, IsLegal}
use Rattle.schedule.specs.declared.command.Command.{Command}
use Rattle.schedule.specs.Meaning.{after, meaning}
use Rattle.schedule.specs.Plans.{Plan}
use Rattle.chart.specs.declared.run_steps.step.Step.{Step}
use Rattle.chart.specs.RunSteps.Steps.{history_of}
use Rattle.schedule_replay.specs.Agreement.{Agrees}

-- the history without its closes
abbrev pub without_closes : List Occurrence → List Occurrence
without_closes [] = []
without_closes (Send a b m ∷ h) = Send a b m ∷ without_closes h
without_closes (Receive a b c ∷ h) = Receive a b c ∷ without_closes h
without_closes (Close a b ∷ h) = without_closes h

-- the steps are the accepted sends and receives of the plan, in order: a run with its chart, over lanes of its capacity
pub record IsRecorded (plan : Plan) (steps : List Step) : Type 0 where
  pub history : history_of steps ≡ without_closes (meaning plan).run.history
  pub legal : IsLegal (length plan.names) plan.capacity (history_of steps)
  pub chart : (p : ℕ) → chart_of (history_of steps) p ≡ chart_of (meaning plan).run.history p

-- what these commands left: the posts are as far as the commands lead, and the steps are the accepted sends and
-- receives so far
pub record HaveRecorded (board : BoardView) (commands : List Command) (posts : List PostView) (last : List (Option ℕ))
    (steps : List Step) : Type 0 where
  pub agrees : Agrees board (after board.size board.capacity commands).run posts last
  pub history : history_of steps ≡ without_closes (after board.size board.capacity commands).run.history
