-- Names that are given to instances.
use Rattle.std.proofs.Common.{◌≡◌, ℕ, ◌<◌, Bool, true, false, cond, eqb, List, [], ◌∷◌, ◌++◌, length, Ok, Err, refl, sym, subst, arith, Contains}
use Rattle.std.specs.Prelude.{bytes_eq}
use Rattle.std.specs.List.{list_any}
use Rattle.std.specs.Cmp.Lexicographic.{nat_list_eq_equiv}
use Rattle.std.proofs.lemmas.Bool.{ne_eqb, eq-eqb, eqb-false}
use Rattle.std.proofs.lemmas.Map.Views.{list_any-from_Contains}
use Rattle.chart.proofs.NameLists.{AreNames-push, Contains-found, not_there}
use Rattle.chart.specs.NameSets.{AreNames}
use Rattle.chart.specs.declared.instance.TheConstants.{MAX_INSTANCES}
use Rattle.texts.specs.declared.fault.Cause.TheVariants.{Instances, Duplicate}
use Rattle.texts.specs.Instances.{with_name}
use Rattle.texts.proofs.Results.{guard_ok, ok_is}

-- a name that is there is found
is_given : (names : List (List ℕ)) (name : List ℕ) → Contains names name → list_any (bytes_eq name) names ≡ true
is_given names name there = list_any-from_Contains nat_list_eq_equiv name names there

-- a name that isn't there is not found
is_new : (names : List (List ℕ)) (name : List ℕ) → (Contains names name → ⊥) → list_any (bytes_eq name) names ≡ false
is_new names name absent = by (list_any (bytes_eq name) names) refl
  where
    by : (b : Bool) → list_any (bytes_eq name) names ≡ b → list_any (bytes_eq name) names ≡ false
    by true e = absurd (absent (Contains-found names name e))
    by false e = e

-- the name is new: it is added after the others
pub with_name-ok : (names : List (List ℕ)) (name : List ℕ) → (Contains names name → ⊥) → (length names ≡ MAX_INSTANCES → ⊥) → with_name names name ≡ Ok (names ++ name ∷ [])
with_name-ok names name absent room = rw (is_new names name absent, ne_eqb (length names) MAX_INSTANCES room) refl

-- the name was given before
pub with_name-given : (names : List (List ℕ)) (name : List ℕ) → Contains names name → with_name names name ≡ Err Duplicate
with_name-given names name there = rw (is_given names name there) refl

-- the name is one too many
pub with_name-full : (names : List (List ℕ)) (name : List ℕ) → (Contains names name → ⊥) → length names ≡ MAX_INSTANCES → with_name names name ≡ Err Instances
with_name-full names name absent full = rw (is_new names name absent, eq-eqb (length names) MAX_INSTANCES full) refl

-- names with a new one are names, with it after the others
pub with_name-names : (names : List (List ℕ)) (name : List ℕ) (new : List (List ℕ)) → AreNames names → with_name names name ≡ Ok new → AreNames new × (new ≡ names ++ name ∷ [])
with_name-names names name new old e =
    let a = guard_ok (list_any (bytes_eq name) names) Duplicate (cond (eqb (length names) MAX_INSTANCES) (Err Instances) (Ok (names ++ name ∷ []))) new e in
    let b = guard_ok (eqb (length names) MAX_INSTANCES) Instances (Ok (names ++ name ∷ [])) new a.1 in
    let other : length names ≡ MAX_INSTANCES → ⊥ = eqb-false (length names) MAX_INSTANCES b.0 in
    let limit = old.limit in
    let room : length names < MAX_INSTANCES = omega arith in
    let same : names ++ name ∷ [] ≡ new = ok_is (names ++ name ∷ []) new b.1 in
    (subst AreNames same (AreNames-push names name old room (not_there names name a.0)), sym same)

-- it is after the others, whatever these are
pub with_name-is : (names : List (List ℕ)) (name : List ℕ) (new : List (List ℕ)) → with_name names name ≡ Ok new → names ++ name ∷ [] ≡ new
with_name-is names name new e =
    let a = guard_ok (list_any (bytes_eq name) names) Duplicate (cond (eqb (length names) MAX_INSTANCES) (Err Instances) (Ok (names ++ name ∷ []))) new e in
    ok_is (names ++ name ∷ []) new (guard_ok (eqb (length names) MAX_INSTANCES) Instances (Ok (names ++ name ∷ [])) new a.1).1
