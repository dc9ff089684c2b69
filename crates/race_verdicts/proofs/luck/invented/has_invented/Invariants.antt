use Rattle.std.proofs.Common.{ℕ, ◌<◌, None, get_or}
use Rattle.std.specs.Prelude.{slice_index}
use Rattle.race_verdicts.specs.Luck.Invention.{IsUpToFirst}
use Rattle.race_verdicts.proofs.luck.invented.has_invented.Given as goal

abbrev pub invariant-loop-place : goal.invariant-loop-place
invariant-loop-place l = (p : ℕ) → p < l.place → IsUpToFirst (get_or l.invented p None) (slice_index l.fronts p) → ⊥
