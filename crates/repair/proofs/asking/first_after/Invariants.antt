use Rattle.std.proofs.Common.{ℕ, ◌-◌, ◌<◌, ◌≤◌}
use Rattle.chart.specs.Charts.{at, chart_lines}
use Rattle.chart.specs.Order.{Before}
use Rattle.closure.specs.Faults.{place_of}
use Rattle.repair.specs.Crossings.{IsBeforeNone}
use Rattle.repair.proofs.asking.first_after.Given as goal

abbrev pub invariant-loop-high : goal.invariant-loop-high
invariant-loop-high l = (l.low < l.high) × (l.high ≤ l.many) × IsBeforeNone (chart_lines l.closure) (place_of l.send) l.instance l.low
    × ((i : ℕ) × (i ≤ l.high) × Before (chart_lines l.closure) (place_of l.send) (at l.instance i))

abbrev pub decreases-loop-high : goal.decreases-loop-high
decreases-loop-high l = l.high - l.low
