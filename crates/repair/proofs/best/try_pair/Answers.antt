use Rattle.std.proofs.Common.{length, sym, subst}
use Rattle.chart.specs.Charts.{IsChart, IsPossible, chart_lines}
use Rattle.closure.specs.Faults.{place_of}
use Rattle.repair.specs.Mends.{Mends, IsMadeOf}
use Rattle.repair.proofs.BestLemmas.{tried_is}
use Rattle.repair.proofs.CountedLemmas.{small_numbers}
use Rattle.repair.proofs.best.try_pair.Goals as goal

pub moved_counted-requires : goal.moved_counted-requires
moved_counted-requires c = small_numbers c.args.counted.now c.args.closure.now c.requires.possible.chart c.requires.placed

pub count_counted-requires-clause-possible : goal.count_counted-requires-clause-possible
count_counted-requires-clause-possible c =
    let lines = c.args.closure.now in
    let pair = c.args.pair.now in
    let m = c.in-Ok-Mended in
    let informs = subst (Mends (length lines) (chart_lines lines) (place_of pair.earlier) (place_of pair.receive) c.args.name.now) m.field-0-is m.ensures.ok in
    subst (λ n. IsPossible n (chart_lines m.chart)) (sym informs.whole) informs.mended.possible

pub count_counted-requires-clause-reports : goal.count_counted-requires-clause-reports
count_counted-requires-clause-reports c =
    let m = c.in-Ok-Mended in
    (subst (IsMadeOf c.args.closure.now) m.field-0-is m.ensures.made).1

pub returns-in-Ok-Mended : goal.returns-in-Ok-Mended
returns-in-Ok-Mended c =
    let lines = c.args.closure.now in
    let pair = c.args.pair.now in
    let m = c.in-Ok-Mended in
    let informs = subst (Mends (length lines) (chart_lines lines) (place_of pair.earlier) (place_of pair.receive) c.args.name.now) m.field-0-is m.ensures.ok in
    let made = subst (IsMadeOf lines) m.field-0-is m.ensures.made in
    let is_chart : IsChart m.chart = c.lines.ensures.chart in
    tried_is c.args.counted.now c.in_ok-counted-in-Ok-Mended.counted lines m.chart pair c.args.name.now m.message c.in_ok-left-in-Ok-Mended.left is_chart informs made.0 c.in_ok-counted-in-Ok-Mended.ensures c.in_ok-left-in-Ok-Mended.ensures
