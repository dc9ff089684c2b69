use Rattle.std.proofs.Common.{length}
use Rattle.diagram_labels.proofs.labels.+is_plain.Given as goal

abbrev pub decreases-is_plain : goal.decreases-is_plain
decreases-is_plain l = length l.label.now
