-- Lists of names that grow.
use Rattle.std.proofs.Common.{◌≡◌, ℕ, ◌<◌, Bool, true, false, List, [], ◌∷◌, ◌++◌, length, Some, sym, refl, ap, ◌∙◌, arith, rules, Contains, IsTrue, ◌↔◌, if◌then◌else◌}
use Rattle.std.specs.Prelude.{slice_get, bytes_eq}
use Rattle.std.specs.List.{list_any}
use Rattle.std.specs.Cmp.Lexicographic.{bytes_decides, nat_list_eq_equiv}
use Rattle.std.proofs.lemmas.Option.{slice_get_within, get_or_from_slice_get}
use Rattle.std.proofs.lemmas.List.{length-append}
use Rattle.std.proofs.lemmas.Map.Views.{list_any-from_Contains, Contains-from_any}
use Rattle.std.proofs.lemmas.Bool.{false≢true}
use Rattle.indexmap.specs.IndexSet.{insert_key}
use Rattle.chart.specs.NameSets.{AreNames}
use Rattle.chart.specs.declared.instance.TheConstants.{MAX_INSTANCES}
use Rattle.chart.proofs.Places.{each-push}

-- a look-up that finds the name shows that it is there
pub Contains-found : (names : List (List ℕ)) (w : List ℕ) → list_any (bytes_eq w) names ≡ true → Contains names w
Contains-found names w found = Contains-from_any (λ x y. (bytes_decides x y).0) w names found

-- a look-up that doesn't find the name shows that it isn't there
pub not_there : (names : List (List ℕ)) (w : List ℕ) → list_any (bytes_eq w) names ≡ false → Contains names w → ⊥
not_there names w absent there = false≢true (sym absent ∙ list_any-from_Contains nat_list_eq_equiv w names there)

-- so a look-up answers whether the name is there
pub is_found : (names : List (List ℕ)) (w : List ℕ) (b : Bool) → b ≡ list_any (bytes_eq w) names → IsTrue b ↔ Contains names w
is_found names w true e = (λ _. Contains-found names w (sym e), λ _. search rules)
is_found names w false e = (λ h. absurd (search rules), λ there. absurd (not_there names w (sym e) there))

pub absent_by : (names : List (List ℕ)) (w : List ℕ) (b : Bool) → IsTrue b ↔ Contains names w → b ≡ false → Contains names w → ⊥
absent_by names w true finds e there = absurd (false≢true (sym e))
absent_by names w false finds e there = absurd (false≢true (is_true (finds.1 there)))
  where
    is_true : IsTrue false → false ≡ true
    is_true h = search rules

-- a name that isn't there goes last
pub insert_key-new : (names : List (List ℕ)) (w : List ℕ) → (Contains names w → ⊥) → insert_key bytes_eq names w ≡ names ++ w ∷ []
insert_key-new names w absent = by (list_any (bytes_eq w) names) refl
  where
    by : (b : Bool) → list_any (bytes_eq w) names ≡ b → insert_key bytes_eq names w ≡ names ++ w ∷ []
    by true e = absurd (absent (Contains-found names w e))
    by false e = ap (λ b. if b then names else names ++ w ∷ []) e

-- a name at a place is in the list
pub Contains-at : (names : List (List ℕ)) (i : ℕ) (w : List ℕ) → slice_get names i ≡ Some w → Contains names w
Contains-at names i w e = (i, slice_get_within names i w e, get_or_from_slice_get names i w w e)

-- names with a new one are names
pub AreNames-push : (names : List (List ℕ)) (w : List ℕ) → AreNames names → length names < MAX_INSTANCES → (Contains names w → ⊥) → AreNames (names ++ w ∷ [])
AreNames-push names w old room absent = record {
  limit = omega (arith, length-append names (w ∷ []));
  distinct = distinct;
}
  where
    of_earlier : (i : ℕ) (v : List ℕ) → slice_get names i ≡ Some v → (j : ℕ) (u : List ℕ) → slice_get (names ++ w ∷ []) j ≡ Some u → u ≡ v → i ≡ j
    of_earlier i v e = each-push (λ j u. u ≡ v → i ≡ j) names w
        (λ j u there same. old.distinct i j v e (there ∙ ap Some same))
        (λ same. absurd (absent (Contains-at names i w (e ∙ ap Some (sym same)))))

    of_newest : (j : ℕ) (u : List ℕ) → slice_get (names ++ w ∷ []) j ≡ Some u → u ≡ w → length names ≡ j
    of_newest = each-push (λ j u. u ≡ w → length names ≡ j) names w
        (λ j u there same. absurd (absent (Contains-at names j w (there ∙ ap Some same))))
        (λ same. refl)

    distinct : (i j : ℕ) (v : List ℕ) → slice_get (names ++ w ∷ []) i ≡ Some v → slice_get (names ++ w ∷ []) j ≡ Some v → i ≡ j
    distinct i j v here there = each-push (λ k u. (l : ℕ) → slice_get (names ++ w ∷ []) l ≡ Some u → k ≡ l) names w
        (λ k u e l e'. of_earlier k u e l u e' refl)
        (λ l e'. of_newest l w e' refl) i v here j there
