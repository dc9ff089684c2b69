use Rattle.std.proofs.Common.{◌≡◌, ◌≤◌, vec_len}
use Rattle.std.specs.Vec.{vec_capacity}
use Rattle.line_recorder.specs.Sends.{next_clocks}
use Rattle.line_recorder.proofs.recorder.Recorder.next_clocks.Given as goal

abbrev pub invariant-loop-place : goal.invariant-loop-place
invariant-loop-place l = (l.clocks.items ≡ next_clocks l.self l.place) × (vec_len l.clocks ≡ l.place) × (l.sends ≤ vec_capacity l.clocks)
