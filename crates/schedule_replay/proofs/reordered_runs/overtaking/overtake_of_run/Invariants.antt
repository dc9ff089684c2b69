use Rattle.std.proofs.Common.{◌≡◌, ℕ, ◌-◌, ◌<◌, ◌≤◌, Some}
use Rattle.std.specs.Prelude.{slice_get}
use Rattle.chart.specs.declared.line.TheConstants.{MAX_EVENTS}
use Rattle.chart.specs.Histories.{chart_of, IsLegal}
use Rattle.reordering.specs.OtherRuns.OtherRuns.{CanBeOvertakenWithin}
use Rattle.chart.specs.declared.run_steps.step.Step.{Step}
use Rattle.reordering.specs.Witness.Orders.{IsInOrder}
use Rattle.chart.specs.RunSteps.Steps.{history_of, place_after}
use Rattle.schedule_replay.specs.ReorderedRuns.Reorderings.{TurnsRound}
use Rattle.schedule_replay.proofs.reordered_runs.overtaking.overtake_of_run.Given as goal

abbrev pub invariant-loop-least : goal.invariant-loop-least
invariant-loop-least l =
    record {
      begun : l.slots ≤ l.least;
      order : l.least ≤ l.most;
      limit : l.most ≤ MAX_EVENTS;
      kept : (n : ℕ) (y : Step) → IsLegal n l.slots (history_of l.steps) → slice_get l.steps l.receive ≡ Some y → IsInOrder l.most l.steps (place_after l.steps l.receive y) l.run.items;
      found : (n : ℕ) (x y : Step) → IsLegal n l.slots (history_of l.steps) → slice_get l.steps l.earlier ≡ Some x → slice_get l.steps l.receive ≡ Some y → TurnsRound n l.most (chart_of (history_of l.steps)) (place_after l.steps l.earlier x) (place_after l.steps l.receive y) l.run.items;
      none : (n : ℕ) (x y : Step) → IsLegal n l.slots (history_of l.steps) → slice_get l.steps l.earlier ≡ Some x → slice_get l.steps l.receive ≡ Some y
          → (k : ℕ) → l.slots ≤ k → k < l.least → CanBeOvertakenWithin n k (chart_of (history_of l.steps)) (place_after l.steps l.earlier x) (place_after l.steps l.receive y) → ⊥;
    }

abbrev pub decreases-loop-least : goal.decreases-loop-least
decreases-loop-least l = l.most - l.least
