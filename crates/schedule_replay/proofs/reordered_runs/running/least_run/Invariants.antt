use Rattle.std.proofs.Common.{ℕ, ◌-◌, ◌<◌, ◌≤◌, length}
use Rattle.chart.specs.declared.line.TheConstants.{MAX_EVENTS}
use Rattle.chart.specs.Charts.{chart_lines}
use Rattle.reordering.specs.OtherRuns.OtherRuns.{IsPossibleWithin}
use Rattle.schedule_replay.specs.ReorderedRuns.Runs.{IsChartRun}
use Rattle.schedule_replay.proofs.reordered_runs.running.least_run.Given as goal

abbrev pub invariant-loop-least : goal.invariant-loop-least
invariant-loop-least l =
    record {
      begun : 1 ≤ l.least;
      order : l.least ≤ l.slots;
      limit : l.slots ≤ MAX_EVENTS;
      chart_run : IsChartRun (length l.chart) l.slots (chart_lines l.chart) l.steps.items;
      none : (k : ℕ) → 1 ≤ k → k < l.least → IsPossibleWithin (length l.chart) k (chart_lines l.chart) → ⊥;
    }

abbrev pub decreases-loop-least : goal.decreases-loop-least
decreases-loop-least l = l.slots - l.least
