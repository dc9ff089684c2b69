use Rattle.std.proofs.Common.{◌≡◌, ◌≤◌, length, drop, reverse}
use Rattle.diagrams.specs.Later.{AreMarked}
use Rattle.diagrams.specs.Losing.{kept, with_lost}
use Rattle.diagrams.proofs.losing.without_lost.Given as goal

abbrev pub invariant-messages : goal.invariant-messages
invariant-messages l = record {
  within : l.count ≤ length l.messages;
  marked : AreMarked l.marked (drop l.count l.messages);
  stay : reverse l.staying.items ≡ kept (drop l.count l.messages);
  left_out : l.left_out.items ≡ with_lost l.fn.left_out.items (drop l.count l.messages);
}

abbrev pub decreases-messages : goal.decreases-messages
decreases-messages l = l.count
