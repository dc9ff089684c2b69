use Rattle.std.proofs.Common.{◌≡◌, ◌++◌}
use Rattle.chart.specs.Ranges.{events_from}
use Rattle.chart.proofs.ranges.add_events.Given as goal

-- the first events of the range were added
abbrev pub invariant-loop-number : goal.invariant-loop-number
invariant-loop-number l = l.events.items ≡ l.initial.events.items ++ events_from l.range.first.instance l.range.first.index l.number
