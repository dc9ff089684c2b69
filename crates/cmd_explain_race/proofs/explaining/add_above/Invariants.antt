use Rattle.std.proofs.Common.{◌≡◌, ◌++◌}
use Rattle.cmd_base.specs.Pairs.Sayings.{passing, comes_first, so}
use Rattle.cmd_explain_race.proofs.explaining.add_above.Given as goal

abbrev pub invariant-loop-place : goal.invariant-loop-place
invariant-loop-place l = l.order.items ≡ l.initial.order.items ++ passing (λ i. so l.before (comes_first l.own.events.now l.own.count l.own.sender i)) l.place
