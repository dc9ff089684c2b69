-- The arrows of a sequence diagram on the lanes of its chart, and those that the chart keeps. A lane has the arrows from
-- one instance to another one. It is first in, first out (Alur, Holzmann and Peled 1996).
use Rattle.std.specs.Prelude.{ℕ, suc, Bool, not, ◌&&◌, ◌==◌, nat_lt, List, [], ◌∷◌, ◌++◌, map, filter, if◌then◌else◌}
use Rattle.std.specs.List.{list_any}
use Rattle.diagram_labels.specs.Labels.{labelled, name_of}
use Rattle.diagrams.specs.Diagrams.{ArrowView, ItemView, AnArrow, ANote}

-- the arrows of these items, in the order of the text
unfoldable pub arrows_of : List ItemView → List ArrowView
arrows_of [] = []
arrows_of (AnArrow a ∷ items) = a ∷ arrows_of items
arrows_of (ANote n ∷ items) = arrows_of items

-- the number of their notes
unfoldable pub notes_in : List ItemView → ℕ
notes_in [] = 0
notes_in (AnArrow a ∷ items) = notes_in items
notes_in (ANote n ∷ items) = suc (notes_in items)

-- In what follows, `at` says of each participant which instance it is.

-- the arrow goes from the instance q to the instance p
abbrev pub goes : (ℕ → ℕ) → ℕ → ℕ → ArrowView → Bool
goes at q p a = at a.sender == q && at a.receiver == p

-- it goes from q to p, and is received
abbrev pub arrives : (ℕ → ℕ) → ℕ → ℕ → ArrowView → Bool
arrives at q p a = goes at q p a && not a.is_lost

-- it goes from an instance to itself
abbrev pub is_within : (ℕ → ℕ) → ArrowView → Bool
is_within at a = at a.sender == at a.receiver

-- a is received above b, which is on the same lane
abbrev pub overtakes : (ℕ → ℕ) → ArrowView → ArrowView → Bool
overtakes at a b = not a.is_lost && (arrives at (at a.sender) (at a.receiver) b && nat_lt a.ends b.ends)

-- a is lost, and one of the later arrows of its lane is received
abbrev pub is_passed : (ℕ → ℕ) → ArrowView → List ArrowView → Bool
is_passed at a later = a.is_lost && list_any (arrives at (at a.sender) (at a.receiver)) later

-- the arrows between instances, and those within one
abbrev pub across : (ℕ → ℕ) → List ArrowView → List ArrowView
across at arrows = filter (λ a. not (is_within at a)) arrows

abbrev pub within : (ℕ → ℕ) → List ArrowView → List ArrowView
within at arrows = filter (is_within at) arrows

-- the arrows that overtake none of the earlier ones, and those that overtake one
unfoldable pub in_order : (ℕ → ℕ) → List ArrowView → List ArrowView → List ArrowView
in_order at earlier [] = []
in_order at earlier (a ∷ arrows) =
    if list_any (overtakes at a) earlier then in_order at (earlier ++ a ∷ []) arrows
    else a ∷ in_order at (earlier ++ a ∷ []) arrows

unfoldable pub overtaking : (ℕ → ℕ) → List ArrowView → List ArrowView → List ArrowView
overtaking at earlier [] = []
overtaking at earlier (a ∷ arrows) =
    if list_any (overtakes at a) earlier then a ∷ overtaking at (earlier ++ a ∷ []) arrows
    else overtaking at (earlier ++ a ∷ []) arrows

-- the arrows that none passes, and those that one passes
unfoldable pub not_passed : (ℕ → ℕ) → List ArrowView → List ArrowView
not_passed at [] = []
not_passed at (a ∷ arrows) = if is_passed at a arrows then not_passed at arrows else a ∷ not_passed at arrows

unfoldable pub passed : (ℕ → ℕ) → List ArrowView → List ArrowView
passed at [] = []
passed at (a ∷ arrows) = if is_passed at a arrows then a ∷ passed at arrows else passed at arrows

-- the arrows that the chart keeps: those between instances that overtake no earlier one, except for lost ones before a
-- received one
abbrev pub kept_arrows : (ℕ → ℕ) → List ArrowView → List ArrowView
kept_arrows at arrows = not_passed at (in_order at [] (across at arrows))

-- the name of an arrow's message, among these arrows: that of its label
abbrev pub named : List ArrowView → ArrowView → List ℕ
named arrows a = name_of (labelled (map (λ b. b.label) arrows)) a.label
