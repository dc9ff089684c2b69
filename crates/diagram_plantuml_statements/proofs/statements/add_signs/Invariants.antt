use Rattle.std.proofs.Common.{◌≡◌, ◌++◌, map, length}
use Rattle.diagram_statements.specs.Statements.{statement_view}
use Rattle.diagram_plantuml_statements.specs.Statements.{sign_statements}
use Rattle.diagram_plantuml_statements.proofs.statements.add_signs.Given as goal

abbrev pub invariant-signs : goal.invariant-signs
invariant-signs l =
    map statement_view l.statements.items ++ sign_statements l.place l.rest ≡ map statement_view l.fn.statements.items ++ sign_statements l.place l.fn.signs

abbrev pub decreases-signs : goal.decreases-signs
decreases-signs l = length l.rest
