use Rattle.std.proofs.Common.{◌≡◌, ◌≤◌, length, drop}
use Rattle.diagram_join.specs.Tables.{AreCoregions, AreLines}
use Rattle.diagram_join.proofs.coregions.Coregions.new_of.Given as goal

abbrev pub invariant-messages : goal.invariant-messages
invariant-messages l = record {
  within : l.count ≤ length l.messages;
  coregions : AreCoregions l.coregions.coregions.entries l.count (drop l.count l.messages);
  lines : AreLines l.coregions.lines.entries (drop l.count l.messages);
}

abbrev pub decreases-messages : goal.decreases-messages
decreases-messages l = l.count
