use Rattle.std.proofs.Common.{◌≡◌, take, filter}
use Rattle.repair.specs.Counted.{was_luck}
use Rattle.repair.proofs.counted.lucky_report.Given as goal

abbrev pub invariant-loop-event : goal.invariant-loop-event
invariant-loop-event l = l.kept.items ≡ filter (was_luck l.luck l.receive) (take l.event-index l.event-items)
