use Rattle.std.proofs.Common.{◌≡◌, [], drop, map}
use Rattle.diagram_statements.specs.Statements.{statement_view}
use Rattle.diagram_statements.specs.ToDiagram.Drawings.{drawing_view, no_drawing}
use Rattle.diagram_statements.specs.ToDiagram.Folds.{folded_from}
use Rattle.diagram_statements.proofs.to_diagram.fold.folded.Given as goal

abbrev pub invariant-loop-statement : goal.invariant-loop-statement
invariant-loop-statement l =
    folded_from l.breaks l.frames.items (drawing_view l.drawing) (map statement_view (drop l.statement-index l.statements))
    ≡ folded_from l.breaks [] no_drawing (map statement_view l.statements)
