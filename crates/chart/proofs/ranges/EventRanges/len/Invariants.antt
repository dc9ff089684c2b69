use Rattle.std.proofs.Common.{◌≡◌, ◌-◌, ◌^◌, length, min, take}
use Rattle.chart.specs.Ranges.{events_in}
use Rattle.chart.proofs.ranges.EventRanges.len.Given as goal

-- the events of the first ranges were counted
abbrev pub invariant-loop-range : goal.invariant-loop-range
invariant-loop-range l = l.events ≡ min (length (events_in (take l.range-index l.ranges))) (2 ^ 64 - 1)
