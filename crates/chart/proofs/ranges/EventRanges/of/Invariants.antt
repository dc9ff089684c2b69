use Rattle.std.proofs.Common.{◌≡◌, ◌≤◌, ◌-◌, length, drop}
use Rattle.chart.proofs.ranges.EventRanges.of.Given as goal

-- the events that were passed, from the last one backwards, are in the list
abbrev pub invariant-loop-passed : goal.invariant-loop-passed
invariant-loop-passed l = (l.passed ≤ length l.events) × (l.builder ≡ drop (length l.events - l.passed) l.events)
