use Rattle.std.proofs.Common.{◌≡◌, take}
use Rattle.repair.specs.Repairs.{pairs_of}
use Rattle.repair.proofs.pairs.race_pairs.Given as goal

abbrev pub invariant-loop-report : goal.invariant-loop-report
invariant-loop-report l = l.pairs.items ≡ pairs_of (take l.report-index l.reports)
