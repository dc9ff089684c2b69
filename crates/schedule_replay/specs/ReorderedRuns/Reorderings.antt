-- What is found for a receive and an event that it may overtake (this project's profile).
use Rattle.std.specs.Prelude.{Bool, true, false, Option, None, Some, ℕ, ◌<◌, ◌≤◌, List, All}
use Rattle.chart.specs.declared.event.Event.{Event}
use Rattle.chart.specs.declared.event.Event.TheVariants.{Send, Receive}
use Rattle.chart.specs.Charts.{Chart, Place}
use Rattle.reordering.specs.OtherRuns.OtherRuns.{IsRunWithin, IsOvertaken, IsPossibleWithin, CanBeOvertaken, CanBeOvertakenWithin}
use Rattle.chart.specs.declared.run_steps.step.Step.{Step}
use Rattle.reordering.specs.Witness.Orders.{IsInOrder}
use Rattle.chart.specs.RunSteps.Steps.{history_of, IsOutside}
use Rattle.schedule_replay.specs.declared.reordered_runs.overtaking.Reordered.{Reordered}
use Rattle.schedule_replay.specs.declared.reordered_runs.overtaking.Reordered.TheVariants.{Run, Enforced}

-- there is an event, and it is a receive
abbrev pub receives : Option Event → Bool
receives None = false
receives (Some (Send to name)) = false
receives (Some (Receive from name region)) = true

-- the steps are a run of the chart's events over lanes of k slots, outside of coregions, and r overtakes e in it
pub record TurnsRound (n k : ℕ) (c : Chart) (e r : Place) (steps : List Step) : Type 0 where
  pub run : IsRunWithin n k c (history_of steps)
  pub overtaken : IsOvertaken c (history_of steps) e r
  pub outside : All IsOutside steps

-- k is the least number of slots with which r overtakes e, among the numbers from `first` on over which the chart is
-- possible
pub record IsLeastTurn (n first k : ℕ) (c : Chart) (e r : Place) : Type 0 where
  pub begun : first ≤ k
  pub least : (l : ℕ) → first ≤ l → l < k → IsPossibleWithin n l c → CanBeOvertakenWithin n l c e r → ⊥

-- what is found: a run with the least number of slots, or that there is none with any number
abbrev pub IsReordered : ℕ → ℕ → Chart → Place → Place → Reordered → Type 0
IsReordered n first c e r (Run slots steps) = TurnsRound n slots c e r steps.items × IsLeastTurn n first slots c e r
IsReordered n first c e r Enforced = CanBeOvertaken n c e r → ⊥

-- the run that is found begins with those of these steps that have to come with r; then it has the others, each in
-- their earlier order
abbrev pub IsKept : List Step → Place → Reordered → Type 0
IsKept steps r (Run slots run) = IsInOrder slots steps r run.items
IsKept steps r Enforced = Unit {0}
