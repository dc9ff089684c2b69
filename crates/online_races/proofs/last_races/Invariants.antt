use Rattle.std.proofs.Common.{ℕ, ◌≤◌, List}
use Rattle.chart.specs.declared.instance.EventNo.{EventNo}
use Rattle.online_races.specs.Passing.{HasFound}
use Rattle.online_races.proofs.last_races.Given as goal

-- what was found after the index is everything found after the last event looked at
abbrev pub invariant-loop-last : goal.invariant-loop-last
invariant-loop-last l = (l.last ≤ l.index) × ((end : ℕ) (found : List EventNo) → HasFound l.line.line end l.index l.entry l.sender l.region found → HasFound l.line.line end l.last l.entry l.sender l.region found)

abbrev pub decreases-loop-last : goal.decreases-loop-last
decreases-loop-last l = l.last
