use Rattle.std.proofs.Common.{◌≡◌, take}
use Rattle.chart.specs.Ranges.{events_in}
use Rattle.chart.proofs.ranges.EventRanges.listed.Given as goal

-- the events of the first ranges are in the list
abbrev pub invariant-loop-range : goal.invariant-loop-range
invariant-loop-range l = l.events.items ≡ events_in (take l.range-index l.ranges)
