use Rattle.std.proofs.Common.{◌≡◌, ◌-◌}
use Rattle.diagram_mscgen.specs.Grammar.Arcs.{arc_view}
use Rattle.diagram_mscgen.specs.Reading.Arcs.{with_others}
use Rattle.diagram_mscgen.proofs.reading.arcs.Rows.add_others.Given as goal

abbrev pub invariant-loop-receiver : goal.invariant-loop-receiver
invariant-loop-receiver l =
    with_others l.way.last l.way.is_lost l.way.sender (arc_view l.arc) l.receiver (l.count - l.receiver) l.self
    ≡ with_others l.way.last l.way.is_lost l.way.sender (arc_view l.arc) 0 l.count l.initial.self
