use Rattle.std.proofs.Common.{◌≡◌, ℕ, suc, ◌<◌, [], length, get_or}
use Rattle.race_verdicts.specs.Luck.Marking.{AreFirsts}
use Rattle.race_verdicts.proofs.luck.order.firsts_of_all.Given as goal

abbrev pub invariant-loop-place : goal.invariant-loop-place
invariant-loop-place l = record {
  whole : length l.tables.items ≡ l.place;
  each : (p : ℕ) → p < l.place → AreFirsts l.lines (suc p) (get_or l.tables.items p []);
}
