use Rattle.std.proofs.Common.{sym, subst}
use Rattle.repair.specs.Moves.{HasNumbers}
use Rattle.repair.proofs.moves.moved_reports.Goals as goal

pub moved_report-requires : goal.moved_report-requires
moved_report-requires c =
    subst HasNumbers (sym c.report-item.is) (c.requires c.loop-report.report-index c.report-item.result c.loop-report-test.true)
