use Rattle.std.proofs.Common.{◌≡◌, ◌≤◌, ◌-◌, length, map, drop}
use Rattle.chart.specs.Ranges.{events_in}
use Rattle.line_recorder.specs.Kept.{range_of}
use Rattle.line_recorder.proofs.kept_reports.ranges_of.Given as goal

-- the events of the passed ranges, from the last one on, are in the list
abbrev pub invariant-loop-passed : goal.invariant-loop-passed
invariant-loop-passed l = (l.passed ≤ length l.kept) × (l.builder ≡ events_in (map (range_of l.instance) (drop (length l.kept - l.passed) l.kept)))
