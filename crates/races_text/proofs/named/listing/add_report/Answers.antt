use Rattle.std.proofs.Common.{refl}
use Rattle.chart.specs.Ranges.{events_in}
use Rattle.chart.specs.Reports.{ReportView}
use Rattle.shown_races.specs.Selected.{without_first}
use Rattle.races_text.proofs.named.listing.add_report.Goals as goal

pub returns : goal.returns
returns g c =
    let report : ReportView = record { receive = c.args.receive; earlier = events_in c.args.earlier.now } in
    (without_first c.passed_by-passed.result report, (c.passed_by-passed.result, c.passed_by-passed.ensures, refl), c.add_later.ensures.added, c.add_later.ensures.has)
