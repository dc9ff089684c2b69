use Rattle.std.proofs.Common.{◌≡◌, ◌++◌, take, map}
use Rattle.chart.specs.declared.instance.EventNo.{EventNo}
use Rattle.repair.specs.declared.pairs.RacePair.{RacePair}
use Rattle.repair.proofs.pairs.add_pairs.Given as goal

abbrev pair : EventNo → EventNo → RacePair
pair r e = record { earlier = e; receive = r }

abbrev pub invariant-loop-event : goal.invariant-loop-event
invariant-loop-event l = l.pairs.items ≡ l.initial.pairs.items ++ map (pair l.report.receive) (take l.event-index l.event-items)
