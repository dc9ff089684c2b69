-- The reported names, one after the other.
use Rattle.std.proofs.Common.{◌≡◌, ℕ, suc, ◌+◌, ◌<◌, ◌≤◌, inl, inr, List, [], ◌∷◌, None, Some, length, map, drop, get_or, refl, sym, ap, ◌∙◌, add-one}
use Rattle.std.specs.Prelude.{slice_get}
use Rattle.std.proofs.Math.Seq.{drop-cons}
use Rattle.std.proofs.lemmas.List.{drop_all}
use Rattle.std.proofs.lemmas.Option.{slice_get_within, get_or_from_slice_get, slice_get_cases}
use Rattle.diagram_labels.specs.Renaming.{with_renamed, renamed_from}

-- a list from a place on
from_here : {A : Type 0} (xs : List A) (n : ℕ) (x : A) → n < length xs → x ≡ get_or xs n x → drop n xs ≡ x ∷ drop (n + 1) xs
from_here xs n x within is = rw add-one (drop-cons xs n x within ∙ ap (λ y. y ∷ drop (suc n) xs) (sym is))

-- one more name
pub renamed_more : {A : Type 0} (f : A → List ℕ) (renames more : List (List ℕ × List ℕ)) (n : ℕ) (xs : List A) (x : A) (names : List (List ℕ)) (name : List ℕ)
    → n < length xs → x ≡ get_or xs n x → slice_get names n ≡ Some name → more ≡ with_renamed renames (f x) name
    → renamed_from more (map f (drop (n + 1) xs)) (drop (n + 1) names) ≡ renamed_from renames (map f (drop n xs)) (drop n names)
unfolding renamed_from
renamed_more f renames more n xs x names name within is at_n e =
    rw (from_here xs n x within is, from_here names n name (slice_get_within names n name at_n) (sym (get_or_from_slice_get names n name name at_n)), e) refl

-- no name is left
nothing_named : (renames : List (List ℕ × List ℕ)) (labels : List (List ℕ)) → renamed_from renames labels [] ≡ renames
unfolding renamed_from
nothing_named renames [] = refl
nothing_named renames (label ∷ labels) = refl

pub renamed_stop : {A : Type 0} (f : A → List ℕ) (renames : List (List ℕ × List ℕ)) (n : ℕ) (xs : List A) (names : List (List ℕ)) → slice_get names n ≡ None
    → renamed_from renames (map f (drop n xs)) (drop n names) ≡ renames
renamed_stop f renames n xs names none = elim (slice_get_cases names n).1 [
  | inl found ↦ absurd (cc (sym none ∙ found.2))
  | inr past ↦ rw (drop_all n names past.0) (nothing_named renames (map f (drop n xs)))
]

-- all labels
pub renamed_end : {A : Type 0} (f : A → List ℕ) (renames : List (List ℕ × List ℕ)) (n : ℕ) (xs : List A) (names : List (List ℕ)) → length xs ≤ n
    → renamed_from renames (map f (drop n xs)) (drop n names) ≡ renames
unfolding renamed_from
renamed_end f renames n xs names past = rw (drop_all n xs past) refl
