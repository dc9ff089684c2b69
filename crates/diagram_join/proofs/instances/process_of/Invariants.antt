use Rattle.std.proofs.Common.{◌≡◌, length, map}
use Rattle.diagram_join.specs.Joins.{join_view, process_of}
use Rattle.diagram_join.proofs.instances.process_of.Given as goal

abbrev pub invariant-joins : goal.invariant-joins
invariant-joins l = process_of (map join_view l.rest) l.line ≡ process_of (map join_view l.joins) l.line

abbrev pub decreases-joins : goal.decreases-joins
decreases-joins l = length l.rest
