use Rattle.std.proofs.Common.{◌≡◌, take, map}
use Rattle.repair.specs.Counted.{lucky_report}
use Rattle.repair.proofs.counted.lucky_reports.Given as goal

abbrev pub invariant-loop-report : goal.invariant-loop-report
invariant-loop-report l = l.lucky.items ≡ map (lucky_report l.luck) (take l.report-index l.reports)
