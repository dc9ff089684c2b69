use Rattle.std.proofs.Common.{◌∙◌}
use Rattle.diagram_mscgen.specs.Grammar.Arcs.{arc_view}
use Rattle.diagram_mscgen.proofs.ReadingLemmas.ArcLemmas.{other_more}
use Rattle.diagram_mscgen.proofs.reading.arcs.Rows.add_others.Goals as goal

pub loop-receiver-preserved : goal.loop-receiver-preserved
loop-receiver-preserved c =
    other_more c.args.way.last c.args.way.is_lost c.args.way.sender (arc_view c.args.arc.now) c.loop-receiver.receiver c.args.count c.loop-receiver.self c.add_other.new.self
    c.loop-receiver-test.true c.in_ok-add_other.ensures ∙ c.loop-receiver.invariant
