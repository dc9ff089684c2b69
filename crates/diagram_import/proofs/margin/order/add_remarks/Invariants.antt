use Rattle.std.proofs.Common.{◌≡◌, ◌++◌, take}
use Rattle.std.specs.Prelude.{map}
use Rattle.diagram_import.specs.Margin.Order.{thing_view, remark_thing}
use Rattle.diagram_import.specs.Margin.Remarks.{remark_view}
use Rattle.diagram_import.proofs.margin.order.add_remarks.Given as goal

abbrev pub invariant-loop-remark : goal.invariant-loop-remark
invariant-loop-remark l = map thing_view l.things.items ≡ map thing_view l.initial.things.items ++ map remark_thing (map remark_view (take l.remark-index l.remarks))
