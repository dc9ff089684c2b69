use Rattle.std.proofs.Common.{◌≡◌, take}
use Rattle.std.specs.Prelude.{map}
use Rattle.std.specs.List.{flat_map}
use Rattle.diagram_mscgen.specs.Grammar.Arcs.{arc_view}
use Rattle.diagram_import.specs.Margin.Arcs.{arc_remark}
use Rattle.diagram_import.specs.Margin.Remarks.{remark_view}
use Rattle.diagram_import.proofs.margin.arcs.arc_remarks.Given as goal

abbrev pub invariant-loop-arc : goal.invariant-loop-arc
invariant-loop-arc l = map remark_view l.remarks.items ≡ flat_map arc_remark (map arc_view (take l.arc-index l.arcs))
