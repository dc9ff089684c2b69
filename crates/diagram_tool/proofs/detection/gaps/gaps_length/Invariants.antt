use Rattle.std.proofs.Common.{◌-◌, length}
use Rattle.diagram_tool.proofs.DetectionLemmas.GapLoops.{AreGaps}
use Rattle.diagram_tool.proofs.detection.gaps.gaps_length.Given as goal

abbrev pub invariant-gaps : goal.invariant-gaps
invariant-gaps l = AreGaps l.text l.passed

abbrev pub decreases-gaps : goal.decreases-gaps
decreases-gaps l = length l.text - l.passed
