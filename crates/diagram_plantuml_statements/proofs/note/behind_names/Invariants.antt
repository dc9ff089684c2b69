use Rattle.std.proofs.Common.{length}
use Rattle.diagram_plantuml_statements.proofs.NameLoops.{NamesLeft}
use Rattle.diagram_plantuml_statements.proofs.note.behind_names.Given as goal

abbrev pub invariant-names : goal.invariant-names
invariant-names l = NamesLeft l.rest l.fn.bytes

abbrev pub decreases-names : goal.decreases-names
decreases-names l = length l.rest
