use Rattle.std.proofs.Common.{ℕ, suc, ◌<◌}
use Rattle.chart.specs.Charts.{chart_lines}
use Rattle.closure.specs.Faults.{place_of}
use Rattle.repair.specs.Crossings.{IsHeardFrom}
use Rattle.repair.proofs.asking.is_before_some.Given as goal

abbrev pub invariant-loop-place : goal.invariant-loop-place
invariant-loop-place l = (q : ℕ) → q < l.place → IsHeardFrom (chart_lines l.closure) (place_of l.send) l.stretch.instance l.stretch.low l.stretch.high (suc q) → ⊥
