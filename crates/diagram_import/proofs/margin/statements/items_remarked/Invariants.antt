use Rattle.std.proofs.Common.{◌≡◌, take}
use Rattle.std.specs.Prelude.{map}
use Rattle.std.specs.List.{flat_map}
use Rattle.diagrams.specs.Diagrams.{item_view}
use Rattle.diagram_import.specs.Margin.Statements.{item_remark}
use Rattle.diagram_import.specs.Margin.Remarks.{remark_view}
use Rattle.diagram_import.proofs.margin.statements.items_remarked.Given as goal

abbrev pub invariant-loop-item : goal.invariant-loop-item
invariant-loop-item l = map remark_view l.remarks.items ≡ flat_map (item_remark l.divides) (map item_view (take l.item-index l.items))
