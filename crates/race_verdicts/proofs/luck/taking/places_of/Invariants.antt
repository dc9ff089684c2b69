use Rattle.std.proofs.Common.{◌≡◌, ℕ, ◌<◌, None, length, map, get_or}
use Rattle.race_verdicts.specs.Luck.Tables.{IsFirst}
use Rattle.race_verdicts.specs.Luck.TakingTables.{IsOfLine}
use Rattle.race_verdicts.specs.Recordings.{taken_view}
use Rattle.race_verdicts.proofs.luck.taking.places_of.Given as goal

abbrev pub invariant-loop-place : goal.invariant-loop-place
invariant-loop-place l = record {
  whole : length l.places ≡ l.count;
  each : (k : ℕ) → k < l.count → IsFirst (IsOfLine (map taken_view l.taken) k) l.place (get_or l.places k None);
}
