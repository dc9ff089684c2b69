use Rattle.std.proofs.Common.{◌≡◌, ◌++◌, length}
use Rattle.diagram_statements.specs.ToDiagram.Labels.{label_from, label_of}
use Rattle.diagram_statements.proofs.to_diagram.labels.label_of.Given as goal

abbrev pub invariant-bytes : goal.invariant-bytes
invariant-bytes l = l.label.items ++ label_from l.breaks l.within l.rest ≡ label_of l.breaks l.fn.text

abbrev pub decreases-bytes : goal.decreases-bytes
decreases-bytes l = length l.rest
