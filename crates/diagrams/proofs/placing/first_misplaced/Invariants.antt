use Rattle.std.proofs.Common.{◌≡◌, map, drop}
use Rattle.diagrams.specs.Diagrams.{item_view}
use Rattle.diagrams.specs.Placing.{first_misplaced}
use Rattle.diagrams.proofs.placing.first_misplaced.Given as goal

abbrev pub invariant-loop-item : goal.invariant-loop-item
invariant-loop-item l = first_misplaced l.count l.row (map item_view (drop l.item-index l.items)) ≡ first_misplaced l.count 0 (map item_view l.items)
