use Rattle.std.proofs.Common.{◌≡◌, ◌<◌, ◌+◌, ◌-◌, suc, ◌∷◌, ◌++◌, length, drop, ap, sym, ◌∙◌, arith, drop-cons}
use Rattle.chart.specs.Ranges.{events_of}
use Rattle.chart.proofs.ranges.EventRanges.of.Goals as goal

pub loop-passed-preserved : goal.loop-passed-preserved
loop-passed-preserved c =
    let events = c.args.events.now in
    let place = length events - 1 - c.loop-passed.passed in
    let event = c.index-events-events.result in
    let here : length events - (c.loop-passed.passed + 1) ≡ place = omega arith in
    let behind : length events - c.loop-passed.passed ≡ suc place = omega arith in
    let inside : place < length events = omega arith in (
      omega arith,
      c.in_ok-put_before.ensures.ok ∙ ap (λ r. events_of r ++ c.loop-passed.builder) c.of.ensures.value ∙ ap (λ es. event ∷ es) (c.loop-passed.invariant.1 ∙ ap (λ k. drop k events) behind)
          ∙ ap (λ e. e ∷ drop (suc place) events) c.index-events-events.is ∙ sym (drop-cons events place event inside) ∙ ap (λ k. drop k events) (sym here),
    )
