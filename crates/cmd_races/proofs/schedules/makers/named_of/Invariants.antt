use Rattle.std.proofs.Common.{◌≡◌, ◌++◌, drop}
use Rattle.cmd_races.specs.Schedules.Tables.{named}
use Rattle.cmd_races.proofs.schedules.makers.named_of.Given as goal

abbrev pub invariant-loop-event : goal.invariant-loop-event
invariant-loop-event l = l.table.items ++ named l.rest (drop l.event-index l.events) ≡ named l.some l.events
