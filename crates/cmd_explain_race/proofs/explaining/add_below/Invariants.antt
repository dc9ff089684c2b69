use Rattle.std.proofs.Common.{◌≡◌, ◌++◌}
use Rattle.std.specs.Prelude.{nat_lt}
use Rattle.cmd_base.specs.Pairs.Sayings.{passing}
use Rattle.cmd_explain_race.proofs.explaining.add_below.Given as goal

abbrev pub invariant-loop-place : goal.invariant-loop-place
invariant-loop-place l = l.order.items ≡ l.initial.order.items ++ passing (nat_lt l.own.receive) l.place
