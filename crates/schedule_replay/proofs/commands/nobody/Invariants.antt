use Rattle.std.proofs.Common.{◌≡◌, replicate, None}
use Rattle.schedule_replay.proofs.commands.nobody.Given as goal

abbrev pub invariant-loop : goal.invariant-loop
invariant-loop l = l.last.items ≡ replicate l.counter None
