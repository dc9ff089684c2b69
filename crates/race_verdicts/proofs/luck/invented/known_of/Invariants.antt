use Rattle.std.proofs.Common.{◌≡◌, ℕ, suc, ◌<◌, None, length, get_or}
use Rattle.chart.specs.Charts.{chart_lines}
use Rattle.race_verdicts.specs.Luck.Invention.{IsKnownFrom}
use Rattle.race_verdicts.proofs.luck.invented.known_of.Given as goal

abbrev pub invariant-loop-place : goal.invariant-loop-place
invariant-loop-place l = record {
  whole : length l.known ≡ length l.closure;
  each : (p : ℕ) → p < l.place → IsKnownFrom (chart_lines l.closure) l.invented (suc p) (get_or l.known p None);
}
