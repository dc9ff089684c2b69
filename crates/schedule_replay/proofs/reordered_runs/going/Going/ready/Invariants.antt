use Rattle.std.proofs.Common.{ℕ, ◌<◌, List}
use Rattle.chart.specs.declared.history.Occurrence.{Occurrence}
use Rattle.chart.specs.Charts.{chart_lines}
use Rattle.reordering.specs.Witness.Steps.{HavePassed}
use Rattle.schedule_replay.specs.ReorderedRuns.Runs.{IsStopped}
use Rattle.schedule_replay.proofs.reordered_runs.going.Going.ready.Given as goal

abbrev pub invariant-loop-line : goal.invariant-loop-line
invariant-loop-line l = (h : List Occurrence) → HavePassed l.self.passed.sends l.self.passed.receives h → (p : ℕ) → p < l.line → IsStopped (chart_lines l.lines) l.slots h l.self.made p
