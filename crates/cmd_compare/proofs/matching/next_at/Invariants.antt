use Rattle.std.proofs.Common.{◌≡◌, ◌≤◌, ◌-◌, length}
use Rattle.chart.specs.Events.{tally}
use Rattle.cmd_compare.specs.Ends.{is_at}
use Rattle.cmd_compare.proofs.matching.next_at.Given as goal

abbrev pub invariant-loop-index : goal.invariant-loop-index
invariant-loop-index l = (l.index ≤ length l.events) × (tally (is_at l.end) l.events l.index ≡ tally (is_at l.end) l.events l.passed)

abbrev pub decreases-loop-index : goal.decreases-loop-index
decreases-loop-index l = length l.events - l.index
