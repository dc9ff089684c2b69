use Rattle.std.proofs.Common.{◌≡◌, ℕ, ◌<◌, None, Some, get_or}
use Rattle.race_verdicts.proofs.luck.invented.has_entry.Given as goal

abbrev pub invariant-loop-number : goal.invariant-loop-number
invariant-loop-number l = (p i : ℕ) → p < l.number → get_or l.table p None ≡ Some i → ⊥
