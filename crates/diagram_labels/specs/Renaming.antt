-- Names that are reported, because they differ from their labels.
use Rattle.std.specs.Prelude.{ℕ, List, [], ◌∷◌, ◌++◌, if◌then◌else◌}
use Rattle.diagram_labels.specs.Labels.{is_renamed}
use Rattle.diagram_labels.specs.declared.renaming.Renamed.{Renamed}

-- a label, and its name
abbrev pub renamed_view : Renamed → List ℕ × List ℕ
renamed_view r = (r.label.items, r.name)

-- the label and its name are reported, unless the name is the label with one _ for each blank
abbrev pub with_renamed : List (List ℕ × List ℕ) → List ℕ → List ℕ → List (List ℕ × List ℕ)
with_renamed renames label name = if is_renamed label name then renames ++ (label, name) ∷ [] else renames

-- the labels whose names have to be reported, in this order
unfoldable pub renamed_from : List (List ℕ × List ℕ) → List (List ℕ) → List (List ℕ) → List (List ℕ × List ℕ)
renamed_from renames [] names = renames
renamed_from renames (label ∷ labels) [] = renames
renamed_from renames (label ∷ labels) (name ∷ names) = renamed_from (with_renamed renames label name) labels names
