use Rattle.std.proofs.Common.{◌≡◌, ◌+◌, length}
use Rattle.diagram_tool.specs.Detection.Gaps.{length_to}
use Rattle.diagram_tool.proofs.detection.gaps.length_to.Given as goal

abbrev pub invariant-bytes : goal.invariant-bytes
invariant-bytes l = record {
  same : l.passed + length_to l.end l.rest ≡ length_to l.fn.end l.fn.bytes;
  within : l.passed + length l.rest ≡ length l.fn.bytes;
}

abbrev pub decreases-bytes : goal.decreases-bytes
decreases-bytes l = length l.rest
