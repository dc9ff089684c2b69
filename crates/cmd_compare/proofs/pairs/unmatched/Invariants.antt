use Rattle.std.proofs.Common.{◌≡◌}
use Rattle.cmd_compare.specs.Pairs.{unmatched_to}
use Rattle.cmd_compare.proofs.pairs.unmatched.Given as goal

abbrev pub invariant-loop-place : goal.invariant-loop-place
invariant-loop-place l = l.numbers.items ≡ unmatched_to l.found l.place
