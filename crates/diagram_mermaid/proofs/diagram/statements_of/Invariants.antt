use Rattle.std.proofs.Common.{◌≡◌, drop, map}
use Rattle.diagram_statements.specs.Statements.{line_view, statement_view}
use Rattle.diagram_statements.specs.Readings.{behind}
use Rattle.diagram_mermaid.specs.Diagrams.{statements_of}
use Rattle.diagram_mermaid.proofs.diagram.statements_of.Given as goal

abbrev pub invariant-loop-piece : goal.invariant-loop-piece
invariant-loop-piece l =
    behind (map statement_view l.statements.items) (statements_of (map line_view (drop l.piece-index l.pieces))) ≡ statements_of (map line_view l.pieces)
