use Rattle.std.proofs.Common.{◌≡◌, ◌≤◌, length}
use Rattle.chart.specs.Charts.{chart_lines, IsPossible}
use Rattle.repair.specs.Best.{HasPairs}
use Rattle.repair.specs.Counted.{ArePlaced}
use Rattle.repair.proofs.LimitLemmas.{GoesOn}
use Rattle.repair.proofs.adding.mend_all.Given as goal

-- what is added to the last chart was added to the first one behind the others
abbrev pub invariant-loop-left : goal.invariant-loop-left
invariant-loop-left l =
    GoesOn l.fn.counted l.counting l.limit l.tried l.chart l.last l.additions.items
    × IsPossible (length l.last) (chart_lines l.last) × (length l.last ≡ length l.chart) × HasPairs l.counting l.last l.left × (l.tried ≤ l.limit)
    × ArePlaced l.counting l.last

abbrev pub decreases-loop-left : goal.decreases-loop-left
decreases-loop-left l = l.left
