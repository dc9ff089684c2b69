use Rattle.diagram_import.specs.Margin.Order.{thing_view}
use Rattle.diagram_import.specs.Margin.Placing.{placed_view, with_thing, nothing}
use Rattle.diagram_import.proofs.MarginLemmas.Loops.{fold_more, view_at}
use Rattle.diagram_import.proofs.margin.placing.placed_things.Goals as goal

pub loop-thing-preserved : goal.loop-thing-preserved
loop-thing-preserved c = fold_more with_thing thing_view nothing _ _ c.args.things.now c.loop-thing.thing-index _ (view_at thing_view c.args.things.now c.loop-thing.thing-index _ c.loop-thing-test.true) c.in_ok-add_thing.ensures c.loop-thing.invariant
