use Rattle.std.proofs.Common.{◌≤◌}
use Rattle.chart.specs.Events.{is_receive_from}
use Rattle.repair.specs.Crossings.{HasNoneIn}
use Rattle.repair.proofs.asking.last_receive.Given as goal

abbrev pub invariant-loop-index : goal.invariant-loop-index
invariant-loop-index l = (l.index ≤ l.high) × HasNoneIn (is_receive_from l.sender) l.events l.index l.high

abbrev pub decreases-loop-index : goal.decreases-loop-index
decreases-loop-index l = l.index
