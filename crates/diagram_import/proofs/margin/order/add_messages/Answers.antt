use Rattle.std.specs.Prelude.{map}
use Rattle.diagram_import.specs.Margin.Order.{thing_view, message_thing}
use Rattle.diagram_import.proofs.MarginLemmas.Loops.{one_more, pushed, view_more}
use Rattle.diagram_import.proofs.margin.order.add_messages.Goals as goal

pub loop-message-preserved : goal.loop-message-preserved
loop-message-preserved c =
    one_more message_thing _ _ (map thing_view c.args.things.now.items) c.args.messages.now c.loop-message.message-index c.message-item.result (view_more message_thing c.args.messages.now c.loop-message.message-index c.message-item.result c.loop-message-test.true c.message-item.is)
    (pushed thing_view _ _ c.message_thing.result _ c.in_ok-push.ensures.items c.message_thing.ensures) c.loop-message.invariant
