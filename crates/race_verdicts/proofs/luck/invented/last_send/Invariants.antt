use Rattle.std.proofs.Common.{ℕ, ◌+◌, ◌<◌, ◌≤◌}
use Rattle.race_verdicts.specs.Luck.Invention.{IsSendAt}
use Rattle.race_verdicts.proofs.luck.invented.last_send.Given as goal

abbrev pub invariant-events : goal.invariant-events
invariant-events l = record {
  low : l.index ≤ l.count;
  none : (k : ℕ) → l.index < k → k < l.count + 1 → IsSendAt l.events k → ⊥;
}

abbrev pub decreases-events : goal.decreases-events
decreases-events l = l.index
