use Rattle.std.proofs.Common.{◌≡◌, ◌<◌, length}
use Rattle.chart.specs.declared.instance.TheConstants.{MAX_INSTANCES}
use Rattle.chart.specs.Charts.{chart_lines}
use Rattle.closure.proofs.RunLemmas.{left}
use Rattle.reordering.specs.Witness.Steps.{HavePassed}
use Rattle.chart.specs.RunSteps.Steps.{history_of}
use Rattle.schedule_replay.specs.ReorderedRuns.Runs.{IsInTurn, last_line}
use Rattle.schedule_replay.proofs.ReorderedRunsLemmas.GoingOn.{IsGoing}
use Rattle.schedule_replay.proofs.reordered_runs.running.run_within.Given as goal

abbrev pub invariant-loop-step : goal.invariant-loop-step
invariant-loop-step l =
    record {
      going : IsGoing (length l.lines) l.slots (chart_lines l.lines) (history_of l.steps.items) l.going.made;
      passed : HavePassed l.going.passed.sends l.going.passed.receives (history_of l.steps.items);
      whole : length l.going.made ≡ MAX_INSTANCES;
      hint : l.line < length l.lines;
      last : l.line ≡ last_line (history_of l.steps.items);
      turn : IsInTurn (chart_lines l.lines) (length l.lines) l.slots (history_of l.steps.items);
    }

abbrev pub decreases-loop-step : goal.decreases-loop-step
decreases-loop-step l = left (chart_lines l.lines) (length l.lines) l.going.made
