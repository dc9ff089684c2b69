use Rattle.std.proofs.Common.{length, map}
use Rattle.diagram_statements.specs.Statements.{statement_view}
use Rattle.diagram_plantuml_statements.proofs.NameLoops.{StatementsLeft}
use Rattle.diagram_plantuml_statements.proofs.note.add_names.Given as goal

abbrev pub invariant-names : goal.invariant-names
invariant-names l = StatementsLeft l.place (map statement_view l.fn.statements.items) (map statement_view l.statements.items) l.rest l.fn.bytes

abbrev pub decreases-names : goal.decreases-names
decreases-names l = length l.rest
