use Rattle.std.proofs.Common.{refl}
use Rattle.chart.specs.Ranges.{events_in}
use Rattle.chart.specs.Reports.{ReportView}
use Rattle.shown_races.specs.Selected.{without_first}
use Rattle.races_text.proofs.judged.listing.add_report.Goals as goal

pub returns : goal.returns
returns g c =
    let report : ReportView = record { receive = c.args.receive; earlier = events_in c.args.earlier.now } in
    let added = c.add_selected.ensures in
    (without_first c.passed_by-passed.result report, (c.passed_by-passed.result, c.passed_by-passed.ensures, refl), added.0, added.1, added.2, added.3)
