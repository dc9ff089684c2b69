use Rattle.std.proofs.Common.{◌++◌, suc, List, ℕ, sym, ap₂, ◌∙◌}
use Rattle.log_chart.specs.declared.item.Item.{Item}
use Rattle.log_chart.specs.Charts.Listing.{invented_from}
use Rattle.log_chart.proofs.ChartsLemmas.WalkLemmas.{invented_lines_more, invented_lines_end}
use Rattle.log_chart.proofs.charts.listing.invented_sends.Goals as goal

pub loop-place-preserved : goal.loop-place-preserved
loop-place-preserved c =
    invented_lines_more c.args.lines.now c.loop-place.place c.index-lines-place.result c.loop-place-test.true c.index-lines-place.is c.loop-place.listed.items c.push_invented.new.listed.items
    (c.in_ok-push_invented.ensures ∙ ap₂ (λ (p : ℕ) (items : List Item). c.loop-place.listed.items ++ invented_from p 1 items) c.at_place.ensures c.as_slice.ensures)
    ∙ c.loop-place.invariant

pub returns : goal.returns
returns c = sym (invented_lines_end c.loop-place.listed.items c.args.lines.now c.loop-place.place (suc c.loop-place.place) c.loop-place-test.false) ∙ c.loop-place.invariant
