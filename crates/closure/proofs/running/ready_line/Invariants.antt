use Rattle.std.proofs.Common.{ℕ, ◌<◌, length}
use Rattle.chart.specs.Charts.{chart_lines}
use Rattle.closure.specs.Runs.{IsStopped}
use Rattle.closure.proofs.running.ready_line.Given as goal

abbrev pub invariant-loop-line : goal.invariant-loop-line
invariant-loop-line l = (p : ℕ) → p < l.line → IsStopped (chart_lines l.linked) (length l.linked) l.made p
