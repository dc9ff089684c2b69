use Rattle.std.specs.Prelude.{map}
use Rattle.diagram_import.specs.Margin.Order.{thing_view, remark_thing}
use Rattle.diagram_import.specs.Margin.Remarks.{remark_view}
use Rattle.diagram_import.proofs.MarginLemmas.Loops.{map_more, pushed, view_more}
use Rattle.diagram_import.proofs.margin.order.add_remarks.Goals as goal

pub loop-remark-preserved : goal.loop-remark-preserved
loop-remark-preserved c =
    map_more remark_thing remark_view _ _ (map thing_view c.args.things.now.items) c.args.remarks.now c.loop-remark.remark-index c.remark-item.result (view_more remark_view c.args.remarks.now c.loop-remark.remark-index c.remark-item.result c.loop-remark-test.true c.remark-item.is)
    (pushed thing_view _ _ c.remark_thing.result _ c.in_ok-push.ensures.items c.remark_thing.ensures) c.loop-remark.invariant
