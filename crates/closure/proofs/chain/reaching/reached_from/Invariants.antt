use Rattle.std.proofs.Common.{◌≡◌, ◌+◌, ◌-◌, ◌≤◌, length}
use Rattle.chart.specs.Charts.{chart_lines}
use Rattle.closure.specs.Faults.{place_of}
use Rattle.closure.proofs.RunLemmas.{left}
use Rattle.closure.specs.Chain.Reaching.{IsSearching}
use Rattle.closure.proofs.chain.reaching.reached_from.Given as goal

abbrev pub invariant-loop-head : goal.invariant-loop-head
invariant-loop-head l = IsSearching (chart_lines l.closure) (place_of l.receive) l.found.items l.seen l.head × (length l.seen ≡ length l.closure) × (l.head ≤ length l.found.items)

abbrev pub decreases-loop-head : goal.decreases-loop-head
decreases-loop-head l = left (chart_lines l.closure) (length l.closure) l.seen + left (chart_lines l.closure) (length l.closure) l.seen + (length l.found.items - l.head)
