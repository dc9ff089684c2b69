use Rattle.std.proofs.Common.{◌≡◌, ◌≤◌, length}
use Rattle.log_chart.specs.Chains.{AreChains}
use Rattle.log_chart.specs.Cycles.Turns.{left_before}
use Rattle.log_chart.proofs.cycles.turns.left_before.Given as goal

abbrev pub invariant-loop-place : goal.invariant-loop-place
invariant-loop-place l = record {
  so_far : l.place ≤ l.number;
  lists : length l.left.first.items ≡ length l.log;
  left : AreChains l.left.first.items l.left.next.items (left_before l.log l.place);
}
