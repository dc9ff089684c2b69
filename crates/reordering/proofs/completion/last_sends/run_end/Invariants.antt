use Rattle.std.proofs.Common.{ℕ, ◌<◌, ◌≤◌}
use Rattle.reordering.specs.Completion.Handling.{IsSendAt}
use Rattle.reordering.proofs.completion.last_sends.run_end.Given as goal

-- all passed events are sends
abbrev pub invariant-loop-place : goal.invariant-loop-place
invariant-loop-place l = (j : ℕ) → l.first < j → j ≤ l.place → IsSendAt l.line.line.events j
