use Rattle.std.proofs.Common.{◌≡◌, ◌<◌, length}
use Rattle.chart.specs.Charts.{chart_lines}
use Rattle.closure.proofs.RunLemmas.{IsMade, left}
use Rattle.closure.proofs.running.runs.Given as goal

abbrev pub invariant-loop-ready : goal.invariant-loop-ready
invariant-loop-ready l = (length l.made ≡ length l.linked) × (l.line < length l.linked) × IsMade (length l.linked) (chart_lines l.linked) l.made

abbrev pub decreases-loop-ready : goal.decreases-loop-ready
decreases-loop-ready l = left (chart_lines l.linked) (length l.linked) l.made
