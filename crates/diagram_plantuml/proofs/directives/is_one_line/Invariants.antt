use Rattle.std.proofs.Common.{◌≡◌, length}
use Rattle.diagram_plantuml.specs.Directives.{is_one_line}
use Rattle.diagram_plantuml.proofs.directives.is_one_line.Given as goal

abbrev pub invariant-bytes : goal.invariant-bytes
invariant-bytes l = is_one_line l.rest ≡ is_one_line l.fn.bytes

abbrev pub decreases-bytes : goal.decreases-bytes
decreases-bytes l = length l.rest
