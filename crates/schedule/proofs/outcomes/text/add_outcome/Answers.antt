use Rattle.std.proofs.Common.{subst}
use Rattle.chart.specs.Charts.{IsNumbered}
use Rattle.msc_text.proofs.NamedReports.{are_named}
use Rattle.schedule.proofs.outcomes.text.add_outcome.Goals as goal

pub add_races-requires : goal.add_races-requires
add_races-requires g c =
    let o = c.args.outcome.now in
    rw (c.names-names.ensures, c.reports-reports.ensures.value)
    (are_named o.names o.chart o.reports c.chart-chart.ensures.named (subst IsNumbered c.chart-chart.ensures.value c.lines.ensures.chart.numbered) c.reports-reports.ensures.exact)
