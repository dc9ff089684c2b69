use Rattle.std.proofs.Common.{◌≡◌, ◌≤◌, length, drop}
use Rattle.log_chart.specs.Chains.{AreChains}
use Rattle.log_chart.specs.Matching.{sends_from}
use Rattle.log_chart.proofs.matching.sends_of.Given as goal

abbrev pub invariant-entries : goal.invariant-entries
invariant-entries l = record {
  within : l.count ≤ length l.log;
  lists : length l.sends.first.items ≡ length l.log;
  numbers : length l.sends.next.items ≡ length l.log;
  sends : AreChains l.sends.first.items l.sends.next.items (sends_from l.count (drop l.count l.log));
}

abbrev pub decreases-entries : goal.decreases-entries
decreases-entries l = l.count
