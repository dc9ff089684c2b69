use Rattle.std.proofs.Common.{◌≡◌, ◌≢◌, ◌≤◌, ℕ, false}
use Rattle.chart.specs.Histories.{is_closed}
use Rattle.board.proofs.parked.Parked.has_closed_one.Given as goal

abbrev pub invariant-loop-place : goal.invariant-loop-place
invariant-loop-place l = (to : ℕ) → 1 ≤ to → to ≤ l.place → to ≢ l.self.number → is_closed l.self.made l.self.number to ≡ false
