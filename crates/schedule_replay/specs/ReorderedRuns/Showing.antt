-- What can be shown for a receive and an event that it may overtake (this project's profile).
use Rattle.std.specs.Prelude.{◌≡◌, ℕ, ◌<◌, List, [], length}
use Rattle.chart.specs.Charts.{Chart, Place}
use Rattle.reordering.specs.OtherRuns.OtherRuns.{IsRunWithin, IsOvertaken, CanBeOvertaken, CanBeOvertakenWithin}
use Rattle.chart.specs.declared.history.TheConstants.{MAX_CAPACITY}
use Rattle.schedule.specs.Meaning.{meaning}
use Rattle.schedule.specs.Plans.{Plan}
use Rattle.schedule_replay.specs.declared.reordered_runs.scheduling.TheConstants.{FIRST_LINE}
use Rattle.schedule_replay.specs.declared.reordered_runs.showing.Shown.{Shown}
use Rattle.schedule_replay.specs.declared.reordered_runs.showing.Shown.TheVariants.{Replay, Enforced, TooManySlots}
use Rattle.schedule_replay.specs.declared.reordered_runs.overtaking.Reordered.{Reordered}
use Rattle.schedule_replay.specs.declared.reordered_runs.overtaking.Reordered.TheVariants as turns
use Rattle.schedule_replay.specs.ReorderedRuns.Schedules.{commands_of}
use Rattle.schedule_replay.specs.ReorderedRuns.Reorderings.{IsLeastTurn}

-- the plan refuses no command, and means a run of the chart's events over its lanes in which r overtakes e
pub record ShowsTurn (n : ℕ) (c : Chart) (e r : Place) (plan : Plan) : Type 0 where
  pub run : IsRunWithin n plan.capacity c (meaning plan).run.history
  pub overtaken : IsOvertaken c (meaning plan).run.history e r
  pub silent : (meaning plan).notes ≡ []

-- a plan of these instances that shows it, with the least number of slots; or that no run does; or the number of slots
-- that it takes
abbrev pub IsShown : List (List ℕ) → ℕ → Chart → Place → Place → Shown → Type 0
IsShown names first c e r (Replay plan) = (plan.names ≡ names) × ShowsTurn (length names) c e r plan
    × IsLeastTurn (length names) first plan.capacity c e r
IsShown names first c e r Enforced = CanBeOvertaken (length names) c e r → ⊥
IsShown names first c e r (TooManySlots k) = (MAX_CAPACITY < k) × CanBeOvertakenWithin (length names) k c e r
    × IsLeastTurn (length names) first k c e r

-- the plan that is shown has a command for each step of the run, in order, and its number of slots
abbrev pub HasSteps : Reordered → Shown → Type 0
HasSteps (turns.Run slots steps) (Replay plan) = (plan.capacity ≡ slots)
    × (plan.commands ≡ commands_of FIRST_LINE steps.items)
HasSteps turns.Enforced (Replay plan) = ⊥
HasSteps _ _ = Unit {0}
