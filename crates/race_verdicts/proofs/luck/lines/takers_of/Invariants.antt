use Rattle.std.proofs.Common.{◌≡◌, ℕ, ◌<◌, None, length, get_or}
use Rattle.race_verdicts.specs.Luck.LineTables.{Takes}
use Rattle.race_verdicts.specs.Luck.Tables.{IsFirst}
use Rattle.race_verdicts.proofs.luck.lines.takers_of.Given as goal

abbrev pub invariant-loop-number : goal.invariant-loop-number
invariant-loop-number l = record {
  whole : length l.takers ≡ length l.lines;
  each : (s : ℕ) → s < length l.lines → IsFirst (Takes l.lines s) l.number (get_or l.takers s None);
}
