use Rattle.std.proofs.Common.{◌++◌, ◌∷◌, [], ap, ◌∙◌}
use Rattle.chart.specs.Ranges.{events_from}
use Rattle.chart.proofs.RangeLists.{events_from-next}
use Rattle.chart.proofs.ranges.add_events.Goals as goal

pub loop-number-preserved : goal.loop-number-preserved
loop-number-preserved c =
    let range = c.args.range.now in
    let before = c.args.events.now.items in
    c.in_ok-push.ensures.items ∙ ap (λ xs. xs ++ c.event.result ∷ []) c.loop-number.invariant
    ∙ ap (λ e. (before ++ events_from range.first.instance range.first.index c.loop-number.number) ++ e ∷ []) c.event.ensures
    ∙ events_from-next range.first.instance range.first.index c.loop-number.number before
