use Rattle.std.proofs.Common.{length, List, refl, sym, subst, ap, ◌∙◌}
use Rattle.chart.specs.Reports.{ReportView}
use Rattle.repair.specs.Repairs.{AreFew, pairs_of}
use Rattle.repair.proofs.CountedLemmas.{few_counted}
use Rattle.repair.proofs.counted.count_counted.Goals as goal

pub count_pairs-requires : goal.count_pairs-requires
count_pairs-requires c =
    subst AreFew (sym c.as_slice.ensures.value) (few_counted c.args.counted.now c.args.chart.now c.in_ok-those.those.items c.lines.ensures.chart c.in_ok-those.ensures)

pub returns : goal.returns
returns c =
    let those = c.in_ok-those.those.items in
    (pairs_of those, (those, c.in_ok-those.ensures, refl), c.count_pairs.ensures.value ∙ ap (λ (rs : List ReportView). length (pairs_of rs)) c.as_slice.ensures.value)
