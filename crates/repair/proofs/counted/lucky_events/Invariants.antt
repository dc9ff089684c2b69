use Rattle.std.proofs.Common.{◌≡◌, take}
use Rattle.repair.specs.Counted.{lucky_events}
use Rattle.repair.proofs.counted.lucky_events.Given as goal

abbrev pub invariant-loop-report : goal.invariant-loop-report
invariant-loop-report l = l.events.items ≡ lucky_events (take l.report-index l.luck) l.receive
