use Rattle.std.proofs.Common.{◌≡◌, length, map}
use Rattle.diagram_join.specs.Joins.{join_view, taken_from}
use Rattle.diagrams.specs.Diagrams.{participant_view}
use Rattle.diagram_join.proofs.instances.taken.Given as goal

abbrev pub invariant-joins : goal.invariant-joins
invariant-joins l = taken_from (map join_view l.joins) l.lines (map participant_view l.participants) (map join_view l.rest)
    ≡ taken_from (map join_view l.joins) l.lines (map participant_view l.participants) (map join_view l.joins)

abbrev pub decreases-joins : goal.decreases-joins
decreases-joins l = length l.rest
