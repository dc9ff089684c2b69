use Rattle.std.proofs.Common.{◌≡◌, suc, ◌<◌, List, length, drop, sym, ap, subst, ◌∙◌}
use Rattle.chart.specs.Charts.{chart_lines}
use Rattle.chart_layout.specs.declared.row.Row.{Row}
use Rattle.chart_layout.specs.Picking.{Comes, actors, actors_of, last_line}
use Rattle.chart_layout.proofs.BegunLemmas.{IsBegun, IsBegun-next, left, left-next, line_within-next}
use Rattle.chart_layout.proofs.PickLemmas.{OfEach, OfEach-next, last_from-push}
use Rattle.chart_layout.proofs.TurnLemmas.{IsLayout-from_begun, next_coming, left-next as turns-next}
use Rattle.chart_layout.proofs.drawing.layout.Goals as goal

pub loop-row-smaller : goal.loop-row-smaller
loop-row-smaller c =
    let next = next_coming c.args.closure.now c.loop-row.layout c.loop-row.left.now c.in-Some.row c.in-Some.ensures in
    subst (λ (rows : List Row). left (chart_lines c.args.closure.now) (length c.args.closure.now) rows < left (chart_lines c.args.closure.now) (length c.args.closure.now) c.loop-row.layout)
    (sym c.in_ok-layout-2.ensures) (left-next c.args.closure.now c.loop-row.layout c.in-Some.row next)

pub loop-row-preserved : goal.loop-row-preserved
loop-row-preserved c =
    let next = next_coming c.args.closure.now c.loop-row.layout c.loop-row.left.now c.in-Some.row c.in-Some.ensures in
    let comes = subst (λ turns. Comes (chart_lines c.args.closure.now) (length c.args.closure.now) c.loop-row.layout turns c.in-Some.row) c.loop-row.invariant.4 c.in-Some.ensures in (
      subst (IsBegun c.args.closure.now) (sym c.in_ok-layout-2.ensures)
          (IsBegun-next c.args.closure.now c.loop-row.layout c.in-Some.row c.len.ensures.possible.chart c.loop-row.invariant.0 next),
      subst (OfEach (λ rows row. Comes (chart_lines c.args.closure.now) (length c.args.closure.now) rows (drop (length (actors rows)) c.args.turns.now) row)) (sym c.in_ok-layout-2.ensures)
          (OfEach-next (λ rows row. Comes (chart_lines c.args.closure.now) (length c.args.closure.now) rows (drop (length (actors rows)) c.args.turns.now) row) c.loop-row.layout c.in-Some.row c.loop-row.invariant.1 comes),
      line_within-next c.args.closure.now c.loop-row.layout c.in-Some.row next c.line_of-line.result c.line_of-line.ensures,
      subst (λ (rows : List Row). last_line rows ≡ suc c.line_of-line.result) (sym c.in_ok-layout-2.ensures) (last_from-push 1 c.loop-row.layout c.in-Some.row ∙ c.line_of-line.ensures),
      c.turns_below-left.ensures ∙ ap (drop (length (actors_of c.in-Some.row))) c.loop-row.invariant.4 ∙ turns-next c.args.turns.now c.loop-row.layout c.in-Some.row ∙ ap (λ rows. drop (length (actors rows)) c.args.turns.now) (sym c.in_ok-layout-2.ensures),
    )

pub returns : goal.returns
returns c = IsLayout-from_begun c.args.closure.now c.args.turns.now c.loop-row.layout c.loop-row.invariant.0 c.loop-row.invariant.1 c.in_default.ensures
