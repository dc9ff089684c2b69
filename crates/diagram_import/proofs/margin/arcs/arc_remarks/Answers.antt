use Rattle.diagram_mscgen.specs.Grammar.Arcs.{arc_view}
use Rattle.diagram_import.specs.Margin.Arcs.{arc_remark}
use Rattle.diagram_import.proofs.MarginLemmas.Loops.{flat_at}
use Rattle.diagram_import.proofs.margin.arcs.arc_remarks.Goals as goal

pub loop-arc-preserved : goal.loop-arc-preserved
loop-arc-preserved c = flat_at arc_remark arc_view _ _ c.args.arcs.now c.loop-arc.arc-index _ c.loop-arc-test.true c.in_ok-add_arc.ensures c.loop-arc.invariant
