use Rattle.std.proofs.Common.{◌≡◌, ◌≤◌, length, drop}
use Rattle.log_chart.specs.Begun.{behind}
use Rattle.log_chart.specs.Chains.{AreChains}
use Rattle.log_chart.proofs.host_line.behind_of.Given as goal

abbrev pub invariant-given : goal.invariant-given
invariant-given l = record {
  within : l.left ≤ length l.given;
  lists : length l.chains.first.items ≡ l.count;
  numbers : length l.chains.next.items ≡ l.count;
  chains : AreChains l.chains.first.items l.chains.next.items (behind (drop l.left l.given));
}

abbrev pub decreases-given : goal.decreases-given
decreases-given l = l.left
