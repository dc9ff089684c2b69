use Rattle.std.proofs.Common.{◌≤◌, length}
use Rattle.cmd_compare.proofs.pairs.first_behind.Given as goal

abbrev pub invariant-loop-first : goal.invariant-loop-first
invariant-loop-first l = l.first ≤ length l.highest

abbrev pub decreases-loop-first : goal.decreases-loop-first
decreases-loop-first l = l.first
