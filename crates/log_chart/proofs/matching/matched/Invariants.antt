use Rattle.std.proofs.Common.{◌≡◌, ◌++◌, length, drop}
use Rattle.log_chart.specs.Chains.{AreChains}
use Rattle.log_chart.specs.Matching.{matched_from, matched}
use Rattle.log_chart.proofs.MatchingLemmas.{left_at}
use Rattle.log_chart.proofs.matching.matched.Given as goal

abbrev pub invariant-loop-number : goal.invariant-loop-number
invariant-loop-number l = record {
  lists : length l.left.first.items ≡ length l.log;
  left : AreChains l.left.first.items l.left.next.items (left_at l.log l.number);
  so_far : l.lines.items ++ matched_from (left_at l.log l.number) l.number (drop l.number l.log) ≡ matched l.log;
}
