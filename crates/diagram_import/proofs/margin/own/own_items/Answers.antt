use Rattle.diagrams.specs.Diagrams.{item_view}
use Rattle.diagram_import.specs.Margin.Owns.{own_remark}
use Rattle.diagram_import.proofs.MarginLemmas.Loops.{flat_more, view_more}
use Rattle.diagram_import.proofs.margin.own.own_items.Goals as goal

pub loop-item-preserved : goal.loop-item-preserved
loop-item-preserved c = flat_more (own_remark c.args.names.now) item_view _ _ c.args.items.now c.loop-item.item-index _ (view_more item_view c.args.items.now c.loop-item.item-index _ c.loop-item-test.true c.item-item.is) c.in_ok-add_own.ensures c.loop-item.invariant
