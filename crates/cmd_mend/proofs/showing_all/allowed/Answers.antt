use Rattle.std.proofs.Common.{◌∙◌, ◌+◌, ◌/◌, List, ℕ, length, ap, ap₂, sym, subst}
use Rattle.chart.specs.Charts.{LineView}
use Rattle.chart.specs.Reports.{ReportView}
use Rattle.repair.specs.Repairs.{AreFew, pairs_of}
use Rattle.repair.proofs.CountLemmas.{few_reports}
use Rattle.cmd_mend.specs.Limits.{all_events, AreShort}
use Rattle.cmd_mend.proofs.showing_all.allowed.Goals as goal

pub count_events-events-requires : goal.count_events-events-requires
count_events-events-requires c =
    let chart = c.len.ensures.possible.chart in
    subst AreShort (sym c.lines.ensures) (record { count = chart.limit; each = λ i d within. (chart.each i d within).short })

pub count_pairs-pairs-requires : goal.count_pairs-pairs-requires
count_pairs-pairs-requires c =
    subst AreFew (sym c.as_slice.ensures.value) (few_reports c.args.closure.now c.in_ok-reports.reports.items c.len.ensures.possible.chart c.in_ok-reports.ensures)

pub returns : goal.returns
returns c =
    let events = c.count_events-events.ensures.count ∙ ap (λ (l : List LineView). length (all_events l)) c.lines.ensures in
    let pairs = c.count_pairs-pairs.ensures.value ∙ ap (λ (l : List ReportView). length (pairs_of l)) c.as_slice.ensures.value in
    (c.in_ok-reports.reports.items, c.in_ok-reports.ensures, ap₂ (λ (e p : ℕ). 20000000 / (e + p + 1)) events pairs)
