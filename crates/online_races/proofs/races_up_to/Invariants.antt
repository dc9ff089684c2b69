use Rattle.std.proofs.Common.{ℕ, ◌-◌, ◌≤◌, length}
use Rattle.chart.specs.Ranges.{events_of}
use Rattle.online_races.specs.Passing.{HasFound}
use Rattle.online_races.proofs.races_up_to.Given as goal

abbrev pub invariant-loop-races : goal.invariant-loop-races
invariant-loop-races l = record {
  found : (end : ℕ) → HasFound l.line.line end (l.fn.last.first.index - 1) l.entry l.sender l.region (events_of l.fn.last) → HasFound l.line.line end l.index l.entry l.sender l.region l.found;
  within : l.index ≤ length l.line.line.events;
}

abbrev pub decreases-loop-races : goal.decreases-loop-races
decreases-loop-races l = l.index
