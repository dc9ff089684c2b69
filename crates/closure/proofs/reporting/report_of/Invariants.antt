use Rattle.std.proofs.Common.{◌≡◌, ◌≤◌, ◌-◌, length, drop}
use Rattle.chart.specs.Ranges.{events_in}
use Rattle.closure.proofs.reporting.report_of.Given as goal

-- the ranges that were passed, from the last one backwards, are in the list
abbrev pub invariant-loop-passed : goal.invariant-loop-passed
invariant-loop-passed l = (l.passed ≤ length l.earlier) × (l.builder ≡ events_in (drop (length l.earlier - l.passed) l.earlier))
