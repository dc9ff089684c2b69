-- The elements of a list by their places, when the list grows at its end, or when one element is replaced.
use Rattle.std.proofs.Common.{◌≡◌, ◌≢◌, ℕ, zero, suc, ◌<◌, ◌≤◌, List, [], ◌∷◌, ◌++◌, length, set, Some, sym, refl, ap, ◌∙◌, subst, arith, inl, inr}
use Rattle.std.specs.Prelude.{slice_get}
use Rattle.std.proofs.lemmas.Option.{slice_get_within}
use Rattle.std.proofs.lemmas.List.{length-append}
use Rattle.std.proofs.lemmas.Bool.{cases_lt}
use Rattle.chart.specs.Events.{ith}

-- the elements before the end stay at their places
pub slice_get-append : {X : Type 0} → (xs ys : List X) (i : ℕ) → i < length xs → slice_get (xs ++ ys) i ≡ slice_get xs i
slice_get-append [] ys i h = absurd (omega (arith, h))
slice_get-append (x ∷ xs) ys zero h = refl
slice_get-append (x ∷ xs) ys (suc i) h = slice_get-append xs ys i (omega (arith, h))

pub slice_get-append_last : {X : Type 0} → (xs : List X) (x : X) → slice_get (xs ++ x ∷ []) (length xs) ≡ Some x
slice_get-append_last [] x = refl
slice_get-append_last (y ∷ xs) x = slice_get-append_last xs x

pub ith-append : {X : Type 0} → (xs ys : List X) (i : ℕ) → i ≤ length xs → ith (xs ++ ys) i ≡ ith xs i
ith-append xs ys zero h = refl
ith-append xs ys (suc i) h = slice_get-append xs ys i h

pub ith-append_last : {X : Type 0} → (xs : List X) (x : X) → ith (xs ++ x ∷ []) (suc (length xs)) ≡ Some x
ith-append_last xs x = slice_get-append_last xs x

-- a fact that holds of each element and of one more holds of each element of the longer list
pub each-push : {X : Type 0} → (P : ℕ → X → Type 0) (xs : List X) (x : X) → ((i : ℕ) (y : X) → slice_get xs i ≡ Some y → P i y) → P (length xs) x
    → (i : ℕ) (y : X) → slice_get (xs ++ x ∷ []) i ≡ Some y → P i y
each-push {X} P xs x old newest i y e = elim (cases_lt i (length xs)) [
  | inl inside ↦ old i y (sym (slice_get-append xs (x ∷ []) i inside) ∙ e)
  | inr past ↦ at_end past
]
  where
    at_end : length xs ≤ i → P i y
    at_end past =
        let inside = slice_get_within (xs ++ x ∷ []) i y e in
        let place : length xs ≡ i = omega (arith, inside, length-append xs (x ∷ [])) in
        let there : Some x ≡ Some y = sym (slice_get-append_last xs x) ∙ ap (slice_get (xs ++ x ∷ [])) place ∙ e in
        let same : x ≡ y = cc in
        subst (λ k. P k y) place (subst (P (length xs)) same newest)

-- the replaced element is the new one
pub slice_get-set_same : {X : Type 0} → (xs : List X) (i : ℕ) (y : X) → i < length xs → slice_get (set xs i y) i ≡ Some y
slice_get-set_same [] i y h = absurd (omega (arith, h))
slice_get-set_same (x ∷ xs) zero y h = refl
slice_get-set_same (x ∷ xs) (suc i) y h = slice_get-set_same xs i y (omega (arith, h))

-- the others stay
pub slice_get-set_other : {X : Type 0} → (xs : List X) (i j : ℕ) (y : X) → j ≢ i → slice_get (set xs i y) j ≡ slice_get xs j
slice_get-set_other [] i j y ne = refl
slice_get-set_other (x ∷ xs) zero zero y ne = absurd (ne refl)
slice_get-set_other (x ∷ xs) zero (suc j) y ne = refl
slice_get-set_other (x ∷ xs) (suc i) zero y ne = refl
slice_get-set_other (x ∷ xs) (suc i) (suc j) y ne = slice_get-set_other xs i j y (λ e. ne (ap suc e))
