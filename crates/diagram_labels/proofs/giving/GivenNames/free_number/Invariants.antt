use Rattle.diagram_labels.specs.Hints.{AreTaken}
use Rattle.diagram_labels.proofs.giving.GivenNames.free_number.Given as goal

abbrev pub invariant-loop-number : goal.invariant-loop-number
invariant-loop-number l = AreTaken l.self l.word l.number
