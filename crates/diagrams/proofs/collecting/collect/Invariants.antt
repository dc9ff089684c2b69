use Rattle.std.proofs.Common.{◌≡◌, map, drop}
use Rattle.diagrams.specs.Collecting.{with_items}
use Rattle.diagrams.specs.Diagrams.{item_view}
use Rattle.diagrams.proofs.collecting.collect.Given as goal

abbrev pub invariant-loop-number : goal.invariant-loop-number
invariant-loop-number l = with_items l.names l.number (map item_view (drop l.number l.items)) l.collected ≡ with_items l.names 0 (map item_view l.items) l.initial.collected
