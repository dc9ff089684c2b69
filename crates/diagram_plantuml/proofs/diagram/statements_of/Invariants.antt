use Rattle.std.proofs.Common.{length, map}
use Rattle.diagram_statements.specs.Statements.{statement_view}
use Rattle.diagram_plantuml.proofs.TextLoops.{LinesLeft}
use Rattle.diagram_plantuml.proofs.diagram.statements_of.Given as goal

abbrev pub invariant-lines : goal.invariant-lines
invariant-lines l = LinesLeft l.joined l.text l.fn.begins (map statement_view l.statements.items) l.region l.standing l.number l.source l.rest

abbrev pub decreases-lines : goal.decreases-lines
decreases-lines l = length l.rest
