use Rattle.std.proofs.Common.{◌≡◌, ℕ, ◌<◌, ◌≤◌, max, get_or}
use Rattle.clock.proofs.entries.raise.Given as goal

abbrev pub invariant-loop-place : goal.invariant-loop-place
invariant-loop-place l = record {
  raised : (k : ℕ) → k < l.place → get_or l.entries k 0 ≡ max (get_or l.initial.entries k 0) (get_or l.others k 0);
  others : (k : ℕ) → l.place ≤ k → get_or l.entries k 0 ≡ get_or l.initial.entries k 0;
}
