-- Tables with a value for each event, when they grow, and when they are read.
use Rattle.std.proofs.Common.{◌≡◌, ℕ, suc, ◌+◌, ◌<◌, inl, inr, List, [], ◌∷◌, ◌++◌, length, get_or, Some, sym, ap, ◌∙◌, subst, arith}
use Rattle.std.proofs.lemmas.Bool.{cases_eq}
use Rattle.std.proofs.lemmas.Option.{get_or_from_slice_get, slice_get-get_or}
use Rattle.std.proofs.lemmas.List.{length_push}
use Rattle.chart.specs.Charts.{Chart, Place, at}
use Rattle.chart.proofs.Places.{slice_get-append, slice_get-append_last, each-push}
use Rattle.closure.specs.Rows.{value_at, IsRow, AreRows}

-- one more value in a row
pub IsRow-push : {X : Type 0} → (IsRight : Place → X → Type 0) (p m : ℕ) (row : List X) (x : X) → IsRow IsRight p m row → IsRight (at p (suc m)) x → IsRow IsRight p (m + 1) (row ++ x ∷ [])
IsRow-push IsRight p m row x old new = record {
  whole = length_push row x ∙ ap (λ k. k + 1) old.whole;
  right = each-push (λ k y. IsRight (at p (suc k)) y) row x old.right (subst (λ k. IsRight (at p (suc k)) x) (sym old.whole) new);
}

-- one more row
pub AreRows-push : {X : Type 0} → (IsRight : Place → X → Type 0) (c : Chart) (n : ℕ) (rows : List (List X)) (row : List X) → AreRows IsRight c n rows → IsRow IsRight (suc n) (length (c (suc n))) row → AreRows IsRight c (n + 1) (rows ++ row ∷ [])
AreRows-push IsRight c n rows row old new = record {
  whole = length_push rows row ∙ ap (λ x. x + 1) old.whole;
  each = λ p h. elim (cases_eq p n) [
    | inl e ↦ subst (λ x. IsRow IsRight (suc x) (length (c (suc x))) (get_or (rows ++ row ∷ []) x [])) (sym e) (subst (λ x. IsRow IsRight (suc n) (length (c (suc n))) x) (sym (last_row old.whole)) new)
    | inr differs ↦ let less : p < n = omega arith in subst (λ x. IsRow IsRight (suc p) (length (c (suc p))) x) (sym (row_before p (rw old.whole less))) (old.each p less)
  ];
}
  where
    last_row : length rows ≡ n → get_or (rows ++ row ∷ []) n [] ≡ row
    last_row e = subst (λ k. get_or (rows ++ row ∷ []) k [] ≡ row) e (get_or_from_slice_get (rows ++ row ∷ []) (length rows) row [] (slice_get-append_last rows row))

    row_before : (p : ℕ) → p < length rows → get_or (rows ++ row ∷ []) p [] ≡ get_or rows p []
    row_before p h = get_or_from_slice_get (rows ++ row ∷ []) p (get_or rows p []) [] (slice_get-append rows (row ∷ []) p h ∙ slice_get-get_or rows p [] h)

-- a value that was read from a table is right
pub AreRows-at : {X : Type 0} → (IsRight : Place → X → Type 0) (c : Chart) (n : ℕ) (rows : List (List X)) (p k : ℕ) (x : X) → AreRows IsRight c n rows → p < n → value_at rows p k ≡ Some x → IsRight (at (suc p) (suc k)) x
AreRows-at IsRight c n rows p k x are within is = (are.each p within).right k x is
