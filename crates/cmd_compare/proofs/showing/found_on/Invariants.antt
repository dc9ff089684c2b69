use Rattle.std.proofs.Common.{◌≡◌, false, take}
use Rattle.std.specs.List.{list_any}
use Rattle.cmd_compare.specs.Comparisons.{has_difference}
use Rattle.cmd_compare.proofs.showing.found_on.Given as goal

-- no line so far has a pair
abbrev pub invariant-loop-line : goal.invariant-loop-line
invariant-loop-line l = list_any has_difference (take l.line-index l.lines) ≡ false
