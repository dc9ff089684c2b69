use Rattle.std.proofs.Common.{◌≡◌, length}
use Rattle.diagram_tool.specs.Detection.Detection.{is_bare}
use Rattle.diagram_tool.proofs.detection.detection.is_bare.Given as goal

abbrev pub invariant-bytes : goal.invariant-bytes
invariant-bytes l = is_bare l.rest ≡ is_bare l.fn.bytes

abbrev pub decreases-bytes : goal.decreases-bytes
decreases-bytes l = length l.rest
