use Rattle.std.proofs.Common.{◌≡◌, ◌++◌, length, map}
use Rattle.diagram_join.specs.Joins.{join_view, all_parts}
use Rattle.diagram_join.proofs.instances.all_parts.Given as goal

abbrev pub invariant-joins : goal.invariant-joins
invariant-joins l = l.parts.items ++ all_parts (map join_view l.rest) ≡ all_parts (map join_view l.joins)

abbrev pub decreases-joins : goal.decreases-joins
decreases-joins l = length l.rest
