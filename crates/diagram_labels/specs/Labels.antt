-- Labels with their names.
use Rattle.std.specs.Prelude.{ℕ, ◌==◌, Bool, not, List, [], ◌∷◌, ◌++◌, map, filter, fold, get_or, zip, bytes_eq, if◌then◌else◌}
use Rattle.std.specs.List.{list_any, position_or_len}
use Rattle.diagram_labels.specs.Spelling.{spelled}
use Rattle.diagram_labels.specs.Giving.{called}

-- different labels, in the order in which they came, and the name of each
pub record Labelling : Type 0 where
  pub labels : List (List ℕ)
  pub names : List (List ℕ)

-- no labels
abbrev pub none : Labelling
none = record { labels = []; names = [] }

-- the label came before
abbrev pub has_label : List (List ℕ) → List ℕ → Bool
has_label labels label = list_any (bytes_eq label) labels

-- the labels and a new one, with its name
abbrev pub with_new : Labelling → List ℕ → Labelling
with_new l label = record { labels = l.labels ++ label ∷ []; names = l.names ++ called l.names (spelled label) ∷ [] }

-- the labels with this one; a label that came before changes nothing
unfoldable pub with_label : Labelling → List ℕ → Labelling
with_label l label = if has_label l.labels label then l else with_new l label

-- the name of a label that came
unfoldable pub name_of : Labelling → List ℕ → List ℕ
name_of l label = get_or l.names (position_or_len (bytes_eq label) l.labels) []

-- the labels that came, from the first on
abbrev pub labelled : List (List ℕ) → Labelling
labelled labels = fold with_label none labels

-- a _ for a blank
abbrev pub line_for_blank : ℕ → ℕ
line_for_blank b = if b == 32 then 95 else b

-- the name has to be reported, because it isn't the label with one _ for each blank
abbrev pub is_renamed : List ℕ → List ℕ → Bool
is_renamed label name = not (bytes_eq (map line_for_blank label) name)

-- the labels whose names have to be reported, each with its name, in the order in which they came
abbrev pub renames : Labelling → List (List ℕ × List ℕ)
renames l = filter (λ p. is_renamed p.0 p.1) (zip l.labels l.names)
