use Rattle.std.proofs.Common.{◌≡◌, length}
use Rattle.cmd_compare.specs.Pairs.{pairs_to, AreAtMost, AreHighest}
use Rattle.cmd_compare.proofs.pairs.pairs_of.Given as goal

abbrev pub invariant-loop-place : goal.invariant-loop-place
invariant-loop-place l = (l.pairs.items ≡ pairs_to l.found l.place) × (length l.highest.items ≡ l.place) × AreHighest l.found l.highest.items × AreAtMost l.so_far l.found l.place
