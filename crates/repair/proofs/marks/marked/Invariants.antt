use Rattle.std.proofs.Common.{◌≡◌, length, take}
use Rattle.repair.specs.Marks.{AreMarks}
use Rattle.repair.proofs.marks.marked.Given as goal

abbrev pub invariant-loop-event : goal.invariant-loop-event
invariant-loop-event l = AreMarks l.instance (take l.event-index l.events) l.marks.items × (length l.marks.items ≡ 4098)
