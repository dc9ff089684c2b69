use Rattle.std.proofs.Common.{◌≡◌, ◌++◌, map, length}
use Rattle.diagram_statements.specs.Statements.{statement_view}
use Rattle.diagram_mermaid.specs.Notes.{name_statements}
use Rattle.diagram_mermaid.proofs.note.add_names.Given as goal

abbrev pub invariant-names : goal.invariant-names
invariant-names l =
    map statement_view l.statements.items ++ name_statements l.place l.rest ≡ map statement_view l.fn.statements.items ++ name_statements l.place l.fn.names

abbrev pub decreases-names : goal.decreases-names
decreases-names l = length l.rest
