use Rattle.std.proofs.Common.{◌≡◌, ◌-◌, ◌≤◌, length}
use Rattle.chart.specs.Events.{is_send_to, tally}
use Rattle.closure.proofs.cycle.passing.next_send.Given as goal

abbrev pub invariant-loop-index : goal.invariant-loop-index
invariant-loop-index l = (l.index ≤ length l.events) × (tally (is_send_to l.receiver) l.events l.index ≡ tally (is_send_to l.receiver) l.events l.passed) × (l.passed ≤ l.index)

abbrev pub decreases-loop-index : goal.decreases-loop-index
decreases-loop-index l = length l.events - l.index
