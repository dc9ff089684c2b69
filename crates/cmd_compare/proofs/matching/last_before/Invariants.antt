use Rattle.std.proofs.Common.{◌≡◌, ◌≤◌}
use Rattle.chart.specs.Events.{tally}
use Rattle.cmd_compare.specs.Ends.{is_at}
use Rattle.cmd_compare.proofs.matching.last_before.Given as goal

abbrev pub invariant-loop-index : goal.invariant-loop-index
invariant-loop-index l = (l.index ≤ l.many) × (tally (is_at l.end) l.events l.index ≡ tally (is_at l.end) l.events l.many)

abbrev pub decreases-loop-index : goal.decreases-loop-index
decreases-loop-index l = l.index
