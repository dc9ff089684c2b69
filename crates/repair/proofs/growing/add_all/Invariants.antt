use Rattle.std.proofs.Common.{◌≡◌, ◌++◌, take}
use Rattle.repair.proofs.growing.add_all.Given as goal

abbrev pub invariant-loop-event : goal.invariant-loop-event
invariant-loop-event l = l.line ≡ record l.initial.line { events = l.initial.line.events ++ take l.event-index l.events }
