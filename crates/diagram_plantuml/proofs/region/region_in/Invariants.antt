use Rattle.std.proofs.Common.{length}
use Rattle.diagram_plantuml.proofs.TextLoops.{RegionLeft}
use Rattle.diagram_plantuml.proofs.region.region_in.Given as goal

abbrev pub invariant-lines : goal.invariant-lines
invariant-lines l = RegionLeft l.text l.region l.number l.rest

abbrev pub decreases-lines : goal.decreases-lines
decreases-lines l = length l.rest
