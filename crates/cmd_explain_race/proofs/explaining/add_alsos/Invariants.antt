use Rattle.std.proofs.Common.{◌≡◌, ◌++◌}
use Rattle.cmd_base.specs.Pairs.Sayings.{passing, comes_too, alsos}
use Rattle.cmd_explain_race.proofs.explaining.add_alsos.Given as goal

abbrev pub invariant-loop-place : goal.invariant-loop-place
invariant-loop-place l = l.sayings.items ≡ l.initial.sayings.items ++ alsos l.own.instance (passing (comes_too l.own.events.now l.own.count l.own.sender) l.place)
