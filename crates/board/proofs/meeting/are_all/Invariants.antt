use Rattle.std.proofs.Common.{◌≤◌, ℕ}
use Rattle.board.specs.Meeting.{HasPost}
use Rattle.board.proofs.meeting.are_all.Given as goal

abbrev pub invariant-loop-place : goal.invariant-loop-place
invariant-loop-place l = (p : ℕ) → 1 ≤ p → p ≤ l.place → HasPost l.posts p
