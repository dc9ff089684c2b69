use Rattle.std.proofs.Common.{◌≡◌, ◌∷◌, ◌++◌, [], suc, map, sym, ap, ap₂, ◌∙◌, ℕ, ◌+◌, List, subst, arith}
use Rattle.chart.specs.Charts.{LineView, IsLine}
use Rattle.log_chart.specs.declared.item.Item.{Item}
use Rattle.log_chart.specs.Charts.ChartLines.{event_of}
use Rattle.log_chart.proofs.ChartsLemmas.LineLemmas.{chart_at, chart_count}
use Rattle.log_chart.proofs.ChartsLemmas.WalkLemmas.{chart_more, chart_end}
use Rattle.log_chart.proofs.charts.chart_lines.lines_of.Goals as goal

suc-one : (p : ℕ) → 1 + p ≡ suc p
suc-one p = omega arith

pub loop-place-preserved : goal.loop-place-preserved
loop-place-preserved c =
    let log = c.args.log.now in
    let line : c.in_ok-line_of.field-0 ≡ record { instance = suc c.loop-place.place; events = map (event_of log) c.index-lines-place.result } =
    c.in_ok-line_of.ensures ∙ ap₂ (λ (p : ℕ) (items : List Item). record { instance = p; events = map (event_of log) items }) c.at_place.ensures c.as_slice.ensures in
    chart_more c.args.lines.now c.loop-place.place c.index-lines-place.result c.loop-place-test.true c.index-lines-place.is log c.loop-place.made.items c.push.new.self.items
    (c.in_ok-push.ensures.items ∙ ap (λ (l : LineView). c.loop-place.made.items ++ l ∷ []) line)
    ∙ c.loop-place.invariant

pub line_of-requires-clause-line : goal.line_of-requires-clause-line
line_of-requires-clause-line c =
    let log = c.args.log.now in
    let p = c.loop-place.place in
    let x = c.index-lines-place.result in
    let d : LineView = record { instance = 0; events = [] } in
    subst IsLine
    (chart_at log 1 c.args.lines.now p x d c.loop-place-test.true c.index-lines-place.is
    ∙ ap₂ (λ (i : ℕ) (items : List Item). record { instance = i; events = map (event_of log) items }) (suc-one p ∙ sym c.at_place.ensures) (sym c.as_slice.ensures))
    (c.requires.each p d (let whole = chart_count log 1 c.args.lines.now in omega (arith, c.loop-place-test.true, whole)))

pub returns : goal.returns
returns c = sym (chart_end c.args.log.now c.loop-place.made.items c.args.lines.now c.loop-place.place (suc c.loop-place.place) c.loop-place-test.false) ∙ c.loop-place.invariant
