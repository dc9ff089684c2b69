use Rattle.std.proofs.Common.{◌≡◌, ◌<◌, ◌≤◌, ℕ, true, Some}
use Rattle.chart.specs.declared.event.Event.{Event}
use Rattle.chart.specs.Events.{ith, is_receive_from}
use Rattle.cmd_races.proofs.schedules.verdicts.is_between.Given as goal

abbrev pub invariant-loop-index : goal.invariant-loop-index
invariant-loop-index l = record {
  within : l.index ≤ l.later;
  none : (i : ℕ) → l.index ≤ i → i < l.later → ((m : Event) × (ith l.events i ≡ Some m) × (is_receive_from l.sender m ≡ true)) → ⊥;
}

abbrev pub decreases-loop-index : goal.decreases-loop-index
decreases-loop-index l = l.index
