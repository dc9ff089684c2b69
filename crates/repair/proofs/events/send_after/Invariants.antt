use Rattle.std.proofs.Common.{◌≡◌, ◌≤◌}
use Rattle.chart.specs.Events.{tally, is_send_to}
use Rattle.repair.proofs.events.send_after.Given as goal

abbrev pub invariant-loop-place : goal.invariant-loop-place
invariant-loop-place l = (l.sent ≡ tally (is_send_to l.receiver) l.events l.place) × (l.sent ≤ l.passed)
