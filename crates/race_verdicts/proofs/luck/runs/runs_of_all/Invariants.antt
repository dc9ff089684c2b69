use Rattle.std.proofs.Common.{◌≡◌, ℕ, ◌<◌, [], length, get_or}
use Rattle.race_verdicts.specs.Luck.Runs.{HaveRuns}
use Rattle.race_verdicts.proofs.luck.runs.runs_of_all.Given as goal

abbrev pub invariant-loop-place : goal.invariant-loop-place
invariant-loop-place l = record {
  whole : length l.tables.items ≡ l.place;
  each : (p : ℕ) → p < l.place → HaveRuns (get_or l.hosts p []) (get_or l.tables.items p []) 0;
}
