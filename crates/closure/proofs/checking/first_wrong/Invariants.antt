use Rattle.std.proofs.Common.{◌≡◌, ◌≤◌, length, take}
use Rattle.closure.proofs.checking.first_wrong.Given as goal

abbrev pub invariant-loop-place : goal.invariant-loop-place
invariant-loop-place l = (l.place ≤ length l.given) × (take l.place l.given ≡ take l.place l.right)
