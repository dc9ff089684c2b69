use Rattle.std.proofs.Common.{◌≡◌, map, drop, Vec, Global, ℕ}
use Rattle.diagram_labels.specs.Renaming.{renamed_view, renamed_from}
use Rattle.diagram_labels.proofs.renaming.add_renamed_labels.Given as goal

abbrev pub invariant-loop-place : goal.invariant-loop-place
invariant-loop-place l = renamed_from (map renamed_view l.renames.items) (map (λ (label : Vec ℕ Global). label.items) (drop l.place l.labels)) (drop l.place l.names)
    ≡ renamed_from (map renamed_view l.fn.renames.items) (map (λ (label : Vec ℕ Global). label.items) l.labels) l.names
