use Rattle.std.proofs.Common.{◌≡◌, ℕ, ◌+◌, ◌<◌, [], None, length, get_or}
use Rattle.race_verdicts.specs.Luck.Invention.{IsUnlogged}
use Rattle.race_verdicts.specs.Luck.Tables.{IsFirst}
use Rattle.race_verdicts.proofs.luck.invented.invented_of.Given as goal

abbrev pub invariant-loop-place : goal.invariant-loop-place
invariant-loop-place l = record {
  whole : length l.invented ≡ length l.hosts;
  each : (p : ℕ) → p < l.place → IsFirst (IsUnlogged (get_or l.hosts p [])) (length (get_or l.hosts p []) + 1) (get_or l.invented p None);
}
