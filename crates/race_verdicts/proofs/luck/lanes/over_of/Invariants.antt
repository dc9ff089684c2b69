use Rattle.std.proofs.Common.{◌≡◌, ℕ, ◌<◌, length}
use Rattle.race_verdicts.specs.Luck.LaneTables.{IsOver}
use Rattle.race_verdicts.proofs.luck.lanes.over_of.Given as goal

abbrev pub invariant-loop-number : goal.invariant-loop-number
invariant-loop-number l = record {
  whole : length l.over ≡ length l.lines;
  each : (n : ℕ) → n < l.number → IsOver l.lines l.over n;
}
