use Rattle.std.proofs.Common.{◌≡◌, take}
use Rattle.std.specs.Prelude.{map}
use Rattle.diagram_statements.specs.Statements.{statement_view}
use Rattle.diagram_import.specs.Margin.Statements.{restated}
use Rattle.diagram_import.proofs.margin.statements.all_restated.Given as goal

abbrev pub invariant-loop-statement : goal.invariant-loop-statement
invariant-loop-statement l = map statement_view l.all.items ≡ map (restated l.divides l.text) (map statement_view (take l.statement-index l.statements))
