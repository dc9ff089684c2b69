use Rattle.std.proofs.Common.{◌≡◌, map, drop}
use Rattle.diagrams.specs.declared.diagram.Participant.{Participant}
use Rattle.diagram_labels.specs.Renaming.{renamed_view, renamed_from}
use Rattle.diagrams.proofs.renaming.add_renamed_participants.Given as goal

abbrev pub invariant-loop-place : goal.invariant-loop-place
invariant-loop-place l = renamed_from (map renamed_view l.renames.items) (map (λ (p : Participant). p.label.items) (drop l.place l.participants)) (drop l.place l.names)
    ≡ renamed_from (map renamed_view l.fn.renames.items) (map (λ (p : Participant). p.label.items) l.participants) l.names
