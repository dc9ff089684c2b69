use Rattle.std.proofs.Common.{◌≡◌, ◌++◌}
use Rattle.cmd_base.specs.Pairs.Sayings.{rows}
use Rattle.cmd_explain_race.proofs.explaining.add_rows.Given as goal

abbrev pub invariant-loop-place : goal.invariant-loop-place
invariant-loop-place l = l.sayings.items ≡ l.initial.sayings.items ++ rows l.order l.place
