use Rattle.std.proofs.Common.{◌≡◌, ◌≤◌, drop}
use Rattle.texts.specs.Words.{kept}
use Rattle.texts.proofs.ByteLoops.{kept_in}
use Rattle.texts.proofs.words.kept.Given as goal

abbrev pub invariant-loop-place : goal.invariant-loop-place
invariant-loop-place l = record {
  same : kept_in l.so_far l.place (kept (drop l.place l.bytes)) ≡ kept l.bytes;
  within : l.so_far ≤ l.place;
}
