use Rattle.std.proofs.Common.{◌≡◌, ◌≤◌, length, drop}
use Rattle.log_chart.specs.FateTables.{AreFirst, AreLast, AreFates}
use Rattle.log_chart.proofs.losing.received_of.Given as goal

abbrev pub invariant-lines : goal.invariant-lines
invariant-lines l = record {
  within : l.count ≤ length l.lines;
  whole : length l.received.fates.items ≡ length l.lines;
  fates : AreFates l.received.fates.items (drop l.count l.lines);
  first : AreFirst l.received.first (drop l.count l.lines);
  last : AreLast l.received.last (drop l.count l.lines);
}

abbrev pub decreases-lines : goal.decreases-lines
decreases-lines l = l.count
