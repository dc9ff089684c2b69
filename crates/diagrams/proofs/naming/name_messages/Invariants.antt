use Rattle.std.proofs.Common.{◌≡◌, ◌++◌, map, drop}
use Rattle.diagrams.specs.Diagrams.{item_view}
use Rattle.diagrams.specs.Naming.{labels_from, named_from}
use Rattle.diagrams.proofs.naming.name_messages.Given as goal

abbrev pub invariant-loop-message : goal.invariant-loop-message
invariant-loop-message l = record {
  labels : labels_from l.labels (map item_view l.items) (drop l.message-index l.messages) ≡ labels_from l.fn.labels (map item_view l.items) l.messages;
  named : l.named.items ++ named_from l.labels (map item_view l.items) (drop l.message-index l.messages) ≡ named_from l.fn.labels (map item_view l.items) l.messages;
}
