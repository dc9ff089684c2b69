-- Participants, in the order in which they are first named.
use Rattle.std.specs.Prelude.{◌≡◌, ℕ, zero, suc, Bool, List, [], ◌∷◌, ◌++◌, length, Option, None, Some, option_map, bytes_eq, if◌then◌else◌}
use Rattle.diagram_statements.specs.declared.to_diagram.participants.Named.{Named}
use Rattle.diagram_statements.specs.Statements.{EndView}

-- a participant: its word in the text, its label there, and the line that first names it
pub record NamedView : Type 0 where
  pub word : List ℕ
  pub label : List ℕ
  pub line : ℕ

abbrev pub named_view : Named → NamedView
named_view p = record { word = p.word.now; label = p.label.now; line = p.line }

-- the place of the participant with this word
abbrev pub place_in : List ℕ → List NamedView → Option ℕ
place_in word [] = None
place_in word (p ∷ ps) = if bytes_eq p.word word then Some 0 else option_map suc (place_in word ps)

abbrev pub label_or : List ℕ → Option (List ℕ) → List ℕ
label_or word None = word
label_or word (Some label) = label

-- a participant without a label has its word as the label
abbrev pub new_named : ℕ → EndView → NamedView
new_named line end = record { word = end.word; label = label_or end.word end.label; line = line }

abbrev pub named_by : List NamedView → ℕ → EndView → Option ℕ → List NamedView × ℕ
named_by ps line end (Some place) = (ps, place)
named_by ps line end None = (ps ++ new_named line end ∷ [], length ps)

-- the participants with a named one, and its place: the first line that names it decides
unfoldable pub named : List NamedView → ℕ → EndView → List NamedView × ℕ
named ps line end = named_by ps line end (place_in end.word ps)

-- a call's place, and the participants after it, are those of the step
abbrev pub Names : ℕ → List NamedView → List NamedView × ℕ → Type 0
Names place ps step = (ps ≡ step.0) × (place ≡ step.1)

-- the participant with this label
abbrev pub relabelled : List ℕ → NamedView → NamedView
relabelled label p = record { word = p.word; label = label; line = p.line }

abbrev pub with_label : List ℕ → ℕ → List NamedView → List NamedView
with_label label place [] = []
with_label label zero (p ∷ ps) = relabelled label p ∷ ps
with_label label (suc place) (p ∷ ps) = p ∷ with_label label place ps

-- the participants with one that is named with its label, which counts from now on
unfoldable pub renamed : List NamedView → ℕ → EndView → List NamedView
renamed ps line end = with_label (label_or end.word end.label) (named ps line end).1 (named ps line end).0
