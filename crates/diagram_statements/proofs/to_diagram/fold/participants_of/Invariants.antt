use Rattle.std.proofs.Common.{◌≡◌, ◌++◌, drop, map}
use Rattle.diagrams.specs.Diagrams.{participant_view}
use Rattle.diagram_statements.specs.ToDiagram.Folds.{participant_of}
use Rattle.diagram_statements.specs.ToDiagram.Participants.{named_view}
use Rattle.diagram_statements.proofs.to_diagram.fold.participants_of.Given as goal

abbrev pub invariant-loop-one : goal.invariant-loop-one
invariant-loop-one l =
    map participant_view l.participants.items ++ map (participant_of l.breaks) (map named_view (drop l.one-index l.named))
    ≡ map (participant_of l.breaks) (map named_view l.named)
