use Rattle.std.proofs.Common.{suc, length, Some, sym, ap, ◌∙◌, arith}
use Rattle.log_chart.proofs.ChartsLemmas.WalkLemmas.{full_here, full_later, full_none}
use Rattle.log_chart.proofs.charts.chart_lines.first_full.Goals as goal

pub returns-then-as_slice-gt-MAX_EVENTS : goal.returns-then-as_slice-gt-MAX_EVENTS
returns-then-as_slice-gt-MAX_EVENTS c =
    let whole = ap length c.as_slice.ensures in
    ap (λ k. Some k) c.at_place.ensures
    ∙ sym (full_here c.args.lines.now c.loop-place.place c.index-lines-place.result c.loop-place-test.true c.index-lines-place.is (omega (arith, whole, c.if-as_slice-gt-MAX_EVENTS.true)))
    ∙ c.loop-place.invariant

pub loop-place-preserved : goal.loop-place-preserved
loop-place-preserved c =
    let whole = ap length c.as_slice.ensures in
    full_later c.args.lines.now c.loop-place.place c.index-lines-place.result c.loop-place-test.true c.index-lines-place.is (omega (arith, whole, c.if-as_slice-gt-MAX_EVENTS.false))
    ∙ c.loop-place.invariant

pub returns : goal.returns
returns c = full_none c.args.lines.now c.loop-place.place (suc c.loop-place.place) c.loop-place-test.false ∙ c.loop-place.invariant
