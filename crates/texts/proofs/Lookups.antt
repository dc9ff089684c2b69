-- Instances that are looked up by their names, and the names of instances.
use Rattle.std.proofs.Common.{◌≡◌, ℕ, zero, suc, ◌≤◌, ◌<◌, Bool, true, false, cond, List, [], length, get_or, Option, Some, None, All, refl, sym, ap, subst, ◌∙◌, arith}
use Rattle.std.specs.Prelude.{bytes_eq, option_map, slice_get}
use Rattle.std.specs.List.{position, position_or_len}
use Rattle.std.specs.Cmp.Lexicographic.{bytes_decides}
use Rattle.std.proofs.lemmas.Bool.{ltb-false, false≢true}
use Rattle.std.proofs.lemmas.List.Quantifiers.{position-Some}
use Rattle.std.proofs.lemmas.List.Sums.{fails_before_first}
use Rattle.std.proofs.lemmas.Option.{slice_get-get_or, unwrap_or-slice_get}
use Rattle.chart.specs.Names.{instance_of}
use Rattle.chart.specs.NameSets.{AreNames}
use Rattle.texts.specs.Instances.{name_at}

-- the instance has the name
pub record IsNamed (names : List (List ℕ)) (name : List ℕ) (p : ℕ) : Type 0 where
  pub first : 1 ≤ p
  pub last : p ≤ length names
  pub has : name_at names p ≡ name

-- bytes that are compared and found equal are equal
pub same_bytes : (a b : List ℕ) → bytes_eq a b ≡ true → a ≡ b
same_bytes a b e = (bytes_decides a b).0 e

pub same_itself : (a : List ℕ) → bytes_eq a a ≡ true
same_itself a = (bytes_decides a a).1 refl

found_at : (names : List (List ℕ)) (name : List ℕ) (o : Option ℕ) (p : ℕ) → position (bytes_eq name) names ≡ o → option_map suc o ≡ Some p → IsNamed names name p
found_at names name None p is e = cc
found_at names name (Some i) p is e =
    let at = position-Some (bytes_eq name) names i [] is in
    let within : i < length names = at.0 in
    let same : suc i ≡ p = cc in
    let named : name_at names (suc i) ≡ name = unwrap_or-slice_get names i [] ∙ sym (same_bytes name (get_or names i []) at.1) in
    record { first = omega arith; last = omega arith; has = ap (name_at names) (sym same) ∙ named }

-- the instance of a name has it
pub instance_is : (names : List (List ℕ)) (name : List ℕ) (p : ℕ) → instance_of names name ≡ Some p → IsNamed names name p
instance_is names name p e = found_at names name (position (bytes_eq name) names) p refl e

none_there : (b : Bool) (k : ℕ) → cond b (Some k) None ≡ None → b ≡ false
none_there true k e = cc
none_there false k e = refl

found_again : (names : List (List ℕ)) (i : ℕ) (o : Option ℕ) → AreNames names → i < length names → position (bytes_eq (get_or names i [])) names ≡ o → option_map suc o ≡ Some (suc i)
found_again names i None are within is =
    let name : List ℕ = get_or names i [] in
    let past : length names ≤ position_or_len (bytes_eq name) names = ltb-false _ _ (none_there _ _ is) in
    absurd (false≢true (sym (fails_before_first (bytes_eq name) names i [] (omega arith)) ∙ same_itself name))
found_again names i (Some k) are within is =
    let name : List ℕ = get_or names i [] in
    let at = position-Some (bytes_eq name) names k [] is in
    let there : slice_get names k ≡ Some name = slice_get-get_or names k [] at.0 ∙ ap Some (sym (same_bytes name (get_or names k []) at.1)) in
    ap (λ j. Some (suc j)) (are.distinct k i name there (slice_get-get_or names i [] within))

-- no two instances have the same name, so the look-up of an instance's name finds the instance again
pub instance_again : (names : List (List ℕ)) (p : ℕ) → AreNames names → 1 ≤ p → p ≤ length names → instance_of names (name_at names p) ≡ Some p
instance_again names zero are first last = absurd (omega arith)
instance_again names (suc i) are first last =
    let within : i < length names = omega arith in
    let name = unwrap_or-slice_get names i [] in
    ap (instance_of names) name ∙ found_again names i (position (bytes_eq (get_or names i [])) names) are within refl

-- a fact that holds of each name holds of an instance's name
pub name_at_all : (P : List ℕ → Type 0) (names : List (List ℕ)) (p : ℕ) → All P names → 1 ≤ p → p ≤ length names → P (name_at names p)
name_at_all P names zero h first last = absurd (omega arith)
name_at_all P names (suc i) h first last = subst P (sym (unwrap_or-slice_get names i [])) (h i [] (omega arith))
