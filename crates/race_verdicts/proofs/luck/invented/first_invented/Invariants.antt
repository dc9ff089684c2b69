use Rattle.std.proofs.Common.{ℕ, ◌+◌, ◌<◌}
use Rattle.race_verdicts.specs.Luck.Invention.{IsUnlogged}
use Rattle.race_verdicts.proofs.luck.invented.first_invented.Given as goal

abbrev pub invariant-loop-place : goal.invariant-loop-place
invariant-loop-place l = (k : ℕ) → k < l.place + 1 → IsUnlogged l.items k → ⊥
