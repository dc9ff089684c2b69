-- The order of a run's steps when a receive is put first (this project's profile).
use Rattle.std.specs.Prelude.{◌≡◌, ℕ, zero, suc, Bool, true, not, List, [], ◌++◌, length, map, slice_get, Some, ◌⊎◌, ◌↔◌, option_to_list, if◌then◌else◌}
use Rattle.chart.specs.Charts.{Place}
use Rattle.chart.specs.Histories.{chart_of}
use Rattle.reordering.specs.OtherRuns.OtherRuns.{BeforeWithin}
use Rattle.chart.specs.declared.run_steps.step.Step.{Step}
use Rattle.chart.specs.RunSteps.Steps.{history_of, place_after, outside_regions}

-- those of the first n steps whose number passes, in order, and outside of coregions
abbrev pub picked : (ℕ → Bool) → List Step → ℕ → List Step
picked passes steps zero = []
picked passes steps (suc n) =
    if passes n then picked passes steps n ++ map outside_regions (option_to_list (slice_get steps n))
    else picked passes steps n

-- over lanes with k slots, the event of this step is that at r or before it
abbrev pub HasToCome : ℕ → List Step → Place → ℕ → Step → Type 0
HasToCome k steps r i x = (place_after steps i x ≡ r) ⊎ BeforeWithin k (chart_of (history_of steps))
    (place_after steps i x) r

-- the run has first the steps that have to come, and then the others, each in its earlier order
pub record IsInOrder (k : ℕ) (steps : List Step) (r : Place) (run : List Step) : Type 0 where
  pub first : ℕ → Bool
  pub right : (i : ℕ) (x : Step) → slice_get steps i ≡ Some x → (first i ≡ true) ↔ HasToCome k steps r i x
  pub order : run ≡ picked first steps (length steps) ++ picked (λ i. not (first i)) steps (length steps)
