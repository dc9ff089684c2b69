-- The bytes of a label's spelling.
use Rattle.std.proofs.Common.{◌≡◌, ℕ, Bool, true, false, not, ◌&&◌, cond, List, [], ◌∷◌, filter, refl, ◌∙◌, arith}
use Rattle.std.specs.List.{list_all, slice_split, onto_first, join_with_byte}
use Rattle.std.proofs.lemmas.List.Folds.{list_all-append}
use Rattle.chart.specs.Names.{is_name_byte}

abbrev pub are_names : List (List ℕ) → Bool
are_names parts = list_all (list_all is_name_byte) parts

pub both : (a b : Bool) → (a && b) ≡ true → (a ≡ true) × (b ≡ true)
both true b e = (refl, e)
both false b e = absurd (grind (arith, e))

onto : (x : ℕ) (parts : List (List ℕ)) → is_name_byte x ≡ true → are_names parts ≡ true → are_names (onto_first x parts) ≡ true
onto x [] e h = rw e refl
onto x (part ∷ parts) e h = rw e h

cut : (x : ℕ) (parts : List (List ℕ)) (b : Bool) → is_name_byte x ≡ b → are_names parts ≡ true → are_names (cond (not b) ([] ∷ parts) (onto_first x parts)) ≡ true
cut x parts false e h = h
cut x parts true e h = onto x parts e h

-- the parts between other characters have only bytes of names
pub parts_are_names : (label : List ℕ) → are_names (slice_split (λ b. not (is_name_byte b)) label) ≡ true
parts_are_names [] = refl
parts_are_names (x ∷ label) = cut x _ (is_name_byte x) refl (parts_are_names label)

kept : {X : Type 0} (p q : X → Bool) (x : X) (xs : List X) (b : Bool) → p x ≡ true → list_all p (filter q xs) ≡ true → list_all p (cond b (x ∷ filter q xs) (filter q xs)) ≡ true
kept p q x xs true e h = rw e h
kept p q x xs false e h = h

pub all_filtered : {X : Type 0} (p q : X → Bool) (xs : List X) → list_all p xs ≡ true → list_all p (filter q xs) ≡ true
all_filtered p q [] h = refl
all_filtered p q (x ∷ xs) h = let e = both _ _ h in kept p q x xs (q x) e.0 (all_filtered p q xs e.1)

-- so have the parts with a _ between each two
pub joined_names : (parts : List (List ℕ)) → are_names parts ≡ true → list_all is_name_byte (join_with_byte 95 parts) ≡ true
joined_names [] h = refl
joined_names (x ∷ []) h = (both _ _ h).0
joined_names (x ∷ y ∷ parts) h =
    let e = both (list_all is_name_byte x) (are_names (y ∷ parts)) h in
    list_all-append is_name_byte x (95 ∷ join_with_byte 95 (y ∷ parts)) ∙ rw (e.0, joined_names (y ∷ parts) e.1) refl
