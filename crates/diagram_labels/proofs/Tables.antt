-- Labels and names by their places.
use Rattle.std.proofs.Common.{◌≡◌, ℕ, suc, ◌+◌, ◌<◌, Bool, true, false, not, ◌||◌, cond, List, [], ◌∷◌, ◌++◌, None, Some, length, map, nat_lt, ltb-true, lt-ltb, refl, sym, ap, ◌∙◌, arith}
use Rattle.std.specs.Prelude.{bytes_eq, position}
use Rattle.std.specs.List.{list_any, position_or_len}
use Rattle.std.proofs.lemmas.List.{length-map}
use Rattle.indexmap.specs.IndexSet.{insert_key}

module _ {X Y : Type 0} (f : X → Y) (p : Y → Bool) where
  prefix_mapped : (xs : List X) → position_or_len p (map f xs) ≡ position_or_len (λ x. p (f x)) xs
  prefix_mapped [] = refl
  prefix_mapped (x ∷ xs) = ap (λ n. cond (not (p (f x))) (1 + n) 0) (prefix_mapped xs)

  -- the first of the values that passes
  pub position_mapped : (xs : List X) → position p (map f xs) ≡ position (λ x. p (f x)) xs
  position_mapped xs = rw (prefix_mapped xs, length-map xs f) refl

  pub any_mapped : (xs : List X) → list_any p (map f xs) ≡ list_any (λ x. p (f x)) xs
  any_mapped [] = refl
  any_mapped (x ∷ xs) = ap (λ b. p (f x) || b) (any_mapped xs)

module _ {X : Type 0} (p : X → Bool) where
  first : (x : X) (xs : List X) (b : Bool) → p x ≡ b → (list_any p xs ≡ true → position_or_len p xs < length xs) → (b || list_any p xs) ≡ true
      → cond (not b) (1 + position_or_len p xs) 0 < suc (length xs)
  first x xs true e more h = omega arith
  first x xs false e more h = let k = more h in omega (arith, k)

  -- an element that passes has a place
  pub any_placed : (xs : List X) → list_any p xs ≡ true → position_or_len p xs < length xs
  any_placed [] h = absurd (grind (arith, h))
  any_placed (x ∷ xs) h = first x xs (p x) refl (any_placed xs) h

  none_first : (x : X) (xs : List X) (b : Bool) → p x ≡ b → (list_any p xs ≡ false → position_or_len p xs ≡ length xs) → (b || list_any p xs) ≡ false
      → cond (not b) (1 + position_or_len p xs) 0 ≡ suc (length xs)
  none_first x xs true e more h = absurd (grind (arith, h))
  none_first x xs false e more h = let k = more h in omega (arith, k)

  -- if no element passes, the place is after all elements
  pub none_placed : (xs : List X) → list_any p xs ≡ false → position_or_len p xs ≡ length xs
  none_placed [] h = refl
  none_placed (x ∷ xs) h = none_first x xs (p x) refl (none_placed xs) h

  found_place : (xs : List X) (place : ℕ) (b : Bool) → nat_lt (position_or_len p xs) (length xs) ≡ b → cond b (Some (position_or_len p xs)) None ≡ Some place → (position_or_len p xs ≡ place) × (b ≡ true)
  found_place xs place true e h = (cc, refl)
  found_place xs place false e h = absurd (cc)

  any_of : (xs : List X) (b : Bool) → list_any p xs ≡ b → position_or_len p xs < length xs → b ≡ true
  any_of xs true e l = refl
  any_of xs false e l = absurd (omega (arith, none_placed xs e))

  -- a place that was found
  pub placed : (xs : List X) (place : ℕ) → position p xs ≡ Some place → (position_or_len p xs ≡ place) × (list_any p xs ≡ true)
  placed xs place h =
      let k = found_place xs place (nat_lt (position_or_len p xs) (length xs)) refl h in
      (k.0, any_of xs (list_any p xs) refl (ltb-true _ _ k.1))

  none_of : (xs : List X) (b : Bool) → list_any p xs ≡ b → position p xs ≡ None → b ≡ false
  none_of xs true e h =
      let within : nat_lt (position_or_len p xs) (length xs) ≡ true = lt-ltb _ _ (any_placed xs e) in
      absurd (let k : Some (position_or_len p xs) ≡ None = rw within at h in cc)
  none_of xs false e h = refl

  pub nowhere : (xs : List X) → position p xs ≡ None → list_any p xs ≡ false
  nowhere xs h = none_of xs (list_any p xs) refl h

-- a value that isn't there is appended
pub inserted : {X : Type 0} (f : X → List ℕ) (keys : List X) (key : X) → list_any (bytes_eq (f key)) (map f keys) ≡ false → insert_key (λ one other. bytes_eq (f one) (f other)) keys key ≡ keys ++ key ∷ []
inserted f keys key h = rw (sym (any_mapped f (bytes_eq (f key)) keys) ∙ h) refl
