use Rattle.std.proofs.Common.{◌≡◌, take}
use Rattle.cmd_races.specs.Schedules.Tables.{kinds}
use Rattle.cmd_races.proofs.schedules.makers.kinds_of.Given as goal

abbrev pub invariant-loop-command : goal.invariant-loop-command
invariant-loop-command l = l.some.items ≡ kinds (take l.command-index l.commands) l.notes l.instance
