use Rattle.std.proofs.Common.{◌≡◌, ◌+◌, ◌≤◌}
use Rattle.chart.specs.Events.{is_receive_from, tally}
use Rattle.closure.proofs.cycle.receiving.receive_in_turn.Given as goal

abbrev pub invariant-loop-place : goal.invariant-loop-place
invariant-loop-place l = (1 ≤ l.left) × (tally (is_receive_from l.sender) l.events l.place + l.left ≡ l.turn)
