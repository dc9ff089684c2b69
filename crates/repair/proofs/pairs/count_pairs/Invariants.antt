use Rattle.std.proofs.Common.{◌≡◌, ◌*◌, ◌≤◌, length, take}
use Rattle.chart.specs.declared.line.TheConstants.{MAX_EVENTS}
use Rattle.repair.specs.Repairs.{pairs_of}
use Rattle.repair.proofs.pairs.count_pairs.Given as goal

-- those of the first reports were counted
abbrev pub invariant-loop-report : goal.invariant-loop-report
invariant-loop-report l = (l.count ≡ length (pairs_of (take l.report-index l.reports))) × (l.count ≤ l.report-index * MAX_EVENTS)
