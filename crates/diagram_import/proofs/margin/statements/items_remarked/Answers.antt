use Rattle.diagrams.specs.Diagrams.{item_view}
use Rattle.diagram_import.specs.Margin.Statements.{item_remark}
use Rattle.diagram_import.proofs.MarginLemmas.Loops.{flat_more, view_more}
use Rattle.diagram_import.proofs.margin.statements.items_remarked.Goals as goal

pub loop-item-preserved : goal.loop-item-preserved
loop-item-preserved c = flat_more (item_remark c.args.divides) item_view _ _ c.args.items.now c.loop-item.item-index _ (view_more item_view c.args.items.now c.loop-item.item-index _ c.loop-item-test.true c.item-item.is) c.in_ok-add_item.ensures c.loop-item.invariant
