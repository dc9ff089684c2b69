use Rattle.std.proofs.Common.{◌≡◌, ◌++◌, take}
use Rattle.std.specs.Prelude.{map}
use Rattle.diagram_import.specs.Margin.Order.{thing_view, message_thing}
use Rattle.diagram_import.proofs.margin.order.add_messages.Given as goal

abbrev pub invariant-loop-message : goal.invariant-loop-message
invariant-loop-message l = map thing_view l.things.items ≡ map thing_view l.initial.things.items ++ map message_thing (take l.message-index l.messages)
