use Rattle.std.proofs.Common.{◌≡◌, take, map}
use Rattle.repair.specs.Growing.{message_of}
use Rattle.repair.specs.Moves.{moved_report}
use Rattle.repair.proofs.moves.moved_reports.Given as goal

abbrev pub invariant-loop-report : goal.invariant-loop-report
invariant-loop-report l = l.moved.items ≡ map (moved_report (message_of l.message)) (take l.report-index l.reports)
