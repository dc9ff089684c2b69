use Rattle.std.proofs.Common.{List, ◌++◌, ap, ◌∙◌}
use Rattle.std.specs.Prelude.{map}
use Rattle.diagram_import.specs.Margin.Order.{thing_view, in_order, remark_thing, message_thing, things_of}
use Rattle.diagram_import.specs.Margin.Remarks.{remark_view}
use Rattle.diagram_import.specs.declared.margin.order.Thing.{Thing}
use Rattle.diagram_import.proofs.margin.order.things_of.Goals as goal

pub returns : goal.returns
unfolding things_of
returns c =
    c.in_ok-put_in_order.ensures
    ∙ ap in_order (c.in_ok-add_messages.ensures
    ∙ ap (λ l. l ++ map message_thing c.args.messages.now) (c.in_ok-add_remarks.ensures
    ∙ ap (λ (xs : List Thing). map thing_view xs ++ map remark_thing (map remark_view c.args.remarks.now)) c.new-things.ensures.items))
