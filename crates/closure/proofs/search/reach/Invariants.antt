use Rattle.std.proofs.Common.{suc, ◌<◌, ◌≤◌, length, slice_index}
use Rattle.chart.specs.Charts.{at, chart_lines}
use Rattle.closure.specs.Searches.{IsSearch}
use Rattle.closure.proofs.RunLemmas.{left}
use Rattle.closure.proofs.search.reach.Given as goal

abbrev pub invariant-loop-pending : goal.invariant-loop-pending
invariant-loop-pending l = IsSearch (chart_lines l.linked) (length l.linked) (at (suc l.line) l.index) l.search.fronts l.search.seen × (l.index ≤ slice_index l.search.fronts l.line) × (l.next < length l.linked)

abbrev pub decreases-loop-pending : goal.decreases-loop-pending
decreases-loop-pending l = left (chart_lines l.linked) (length l.linked) l.search.seen
