use Rattle.std.proofs.Common.{◌+◌, refl, ap, ◌∙◌}
use Rattle.pictures.specs.ColumnText.{next_life}
use Rattle.pictures.specs.Spots.{height}
use Rattle.texts.proofs.PiecesLemmas.Coming.{come_as, come_more, come_stops, come_ends}
use Rattle.pictures.proofs.Walks.{life_step, life_last}
use Rattle.pictures.proofs.columns.add_lifeline.Goals as goal

pub loop-event-preserved : goal.loop-event-preserved
loop-event-preserved g c =
    let step = life_step c.args.picture.now c.args.instance c.args.x c.loop-event.index c.loop-event.life c.args.events.now c.loop-event.event-index c.event-item.result c.rows_above-place.result
    c.region.result c.region-in-loop-event.result c.next_life-life.result c.loop-event-test.true c.event-item.is c.rows_above-place.ensures c.region.ensures c.region-in-loop-event.ensures c.next_life-life.ensures in
    record {
      index = ap (λ n. n + 1) c.loop-event.invariant.index;
      come = come_more _ _ (come_as step c.loop-event.invariant.come) c.in_ok-add_part.ensures;
    }

pub returns-in_err-add_part : goal.returns-in_err-add_part
returns-in_err-add_part g c =
    let step = life_step c.args.picture.now c.args.instance c.args.x c.loop-event.index c.loop-event.life c.args.events.now c.loop-event.event-index c.event-item.result c.rows_above-place.result
    c.region.result c.region.result (next_life c.loop-event.life c.rows_above-place.result c.region.result) c.loop-event-test.true c.event-item.is c.rows_above-place.ensures c.region.ensures c.region.ensures refl in
    come_stops _ _ c.from_residual.result c.from_residual.ensures.0 (come_as step c.loop-event.invariant.come) c.in_err-add_part.ensures

pub returns : goal.returns
returns g c =
    let last = life_last c.args.picture.now c.args.instance c.args.x c.loop-event.index c.loop-event.life c.args.events.now c.loop-event.event-index c.height.result c.loop-event-test.false
    (c.height.ensures ∙ ap height c.count.ensures) in
    come_ends c.add_life_end.new.text c.add_life_end.result _ (come_as last c.loop-event.invariant.come) c.add_life_end.ensures
