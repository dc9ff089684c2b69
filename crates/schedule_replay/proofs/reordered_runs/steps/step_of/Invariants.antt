use Rattle.std.proofs.Common.{◌≡◌, ℕ, ◌<◌, ◌≤◌, length, take}
use Rattle.chart.specs.Histories.{chart_of, IsLegal}
use Rattle.chart.specs.RunSteps.Steps.{history_of}
use Rattle.schedule_replay.proofs.reordered_runs.steps.step_of.Given as goal

abbrev pub invariant-loop-place : goal.invariant-loop-place
invariant-loop-place l =
    record {
      few : l.made ≤ l.place;
      below : 1 ≤ l.event.index → l.made < l.event.index;
      many : (n k : ℕ) → IsLegal n k (history_of l.steps) → l.made ≡ length (chart_of (history_of (take l.place l.steps)) l.event.instance);
    }
