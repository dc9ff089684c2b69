use Rattle.std.proofs.Common.{◌≡◌, ◌≤◌, length, take, vec_capacity}
use Rattle.chart.proofs.line.Line.of.Given as goal

abbrev pub invariant-loop-place : goal.invariant-loop-place
invariant-loop-place l = (l.events.items ≡ take l.place l.growing.line.events) × (length l.growing.line.events ≤ vec_capacity l.events)
