use Rattle.std.proofs.Common.{◌≡◌, ℕ, ◌-◌, ◌<◌, ◌≤◌, true, length, Some}
use Rattle.chart.specs.declared.event.Event.{Event}
use Rattle.chart.specs.Events.{ith, is_in}
use Rattle.repair.proofs.events.end_behind.Given as goal

abbrev pub invariant-loop-end : goal.invariant-loop-end
invariant-loop-end l = (l.index ≤ l.end) × (l.end ≤ length l.events) × ((i : ℕ) (m : Event) → l.index < i → i ≤ l.end → ith l.events i ≡ Some m → is_in l.region m ≡ true)

abbrev pub decreases-loop-end : goal.decreases-loop-end
decreases-loop-end l = length l.events - l.end
