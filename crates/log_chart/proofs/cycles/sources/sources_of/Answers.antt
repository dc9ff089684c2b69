use Rattle.std.proofs.Common.{◌≡◌, None, get_or, ◌∙◌, arith}
use Rattle.std.proofs.lemmas.List.{get_or_default}
use Rattle.log_chart.proofs.CyclesLemmas.SourceLemmas.{filled_none, filled_more, filled_sources, at_end}
use Rattle.log_chart.proofs.cycles.sources.sources_of.Goals as goal

pub loop-line-init : goal.loop-line-init
loop-line-init c = filled_none c.args.lines.now c.args.count _ _ _ c.in_ok-above.ensures c.in_ok-sends.ensures c.in_ok-last.ensures

pub loop-line-preserved : goal.loop-line-preserved
loop-line-preserved c =
    let last = c.loop-line.last.items in
    let place = c.place-place.result in
    let top : c.index.result.now ≡ get_or last place None = c.index.ensures ∙ get_or_default last place c.index.result.now None (omega (arith, c.loop-line.invariant.last_whole, c.place-place.ensures.last)) in
    rw top
    (filled_more c.args.lines.now c.args.count c.loop-line.line-index c.loop-line.above.items c.loop-line.sends.items last c.line-item.result place c.requires c.loop-line-test.true c.line-item.is
    c.place-place.ensures.value c.place-place.ensures.last c.loop-line.invariant)

pub returns : goal.returns
returns c = filled_sources c.args.lines.now c.args.count _ _ c.loop-line.last.items c.requires (at_end c.args.lines.now c.args.count c.loop-line.line-index _ _ _ c.loop-line-test.false c.loop-line.invariant)
