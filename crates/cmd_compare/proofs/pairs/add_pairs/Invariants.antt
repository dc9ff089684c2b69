use Rattle.std.proofs.Common.{◌≡◌, ◌++◌}
use Rattle.cmd_compare.specs.Pairs.{pairs_above}
use Rattle.cmd_compare.proofs.pairs.add_pairs.Given as goal

abbrev pub invariant-loop-place : goal.invariant-loop-place
invariant-loop-place l = l.pairs.items ≡ l.initial.pairs.items ++ pairs_above l.found l.later l.place
