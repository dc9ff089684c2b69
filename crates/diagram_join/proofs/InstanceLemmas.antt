-- Each line's instance is one of the named ones.
use Rattle.std.proofs.Common.{◌≡◌, ℕ, zero, suc, ◌+◌, ◌-◌, ◌<◌, ◌≤◌, Bool, true, false, not, ◌||◌, cond, List, [], ◌∷◌, ◌++◌, Option, None, Some, length, get_or, refl, sym, ap, ◌∙◌, arith}
use Rattle.std.specs.Prelude.{Contains, nat_lt, bytes_eq, slice_get, option_map, option_and_then, unwrap_or, is_some}
use Rattle.std.specs.List.{list_any, position, position_or_len}
use Rattle.std.specs.Cmp.Lexicographic.{bytes_decides, nat_list_eq_equiv}
use Rattle.std.proofs.lemmas.Bool.{ltb-true, ltb-false}
use Rattle.std.proofs.lemmas.List.Folds.{list_any-append}
use Rattle.std.proofs.lemmas.Option.{slice_get-get_or}
use Rattle.std.proofs.lemmas.Map.Views.{list_any-from_Contains}
use Rattle.chart.proofs.NameLists.{Contains-found}
use Rattle.chart.specs.Names.{instance_of}
use Rattle.diagram_join.specs.Joins.{names_from}
use Rattle.diagram_join.specs.Moves.{instance_at}
use Rattle.diagram_join.proofs.CoregionLemmas.{nowhere}

-- an element that passes a test has a place
somewhere : {A : Type 0} (test : A → Bool) (xs : List A) → list_any test xs ≡ true → position_or_len test xs < length xs
somewhere test [] e = absurd (cc e)
somewhere test (x ∷ xs) e = go (test x) (somewhere test xs) e
  where
    go : (b : Bool) → (list_any test xs ≡ true → position_or_len test xs < length xs) → (b || list_any test xs) ≡ true → cond (not b) (1 + position_or_len test xs) 0 < suc (length xs)
    go true next e = omega arith
    go false next e = omega (arith, next e)

-- a name in the list is found
found : (names : List (List ℕ)) (name : List ℕ) (d : ℕ) → list_any (bytes_eq name) names ≡ true → (1 ≤ unwrap_or (instance_of names name) d) × (unwrap_or (instance_of names name) d ≤ length names)
found names name d there = go (nat_lt (position_or_len (bytes_eq name) names) (length names)) refl
  where
    go : (b : Bool) → nat_lt (position_or_len (bytes_eq name) names) (length names) ≡ b
        → (1 ≤ unwrap_or (option_map suc (cond b (Some (position_or_len (bytes_eq name) names)) None)) d) × (unwrap_or (option_map suc (cond b (Some (position_or_len (bytes_eq name) names)) None)) d ≤ length names)
    go true e = let within = ltb-true (position_or_len (bytes_eq name) names) (length names) e in (omega arith, omega (arith, within))
    go false e = let past = ltb-false (position_or_len (bytes_eq name) names) (length names) e in absurd (omega (arith, past, somewhere (bytes_eq name) names there))

there_if : (names : List (List ℕ)) (name : List ℕ) → is_some (instance_of names name) ≡ true → list_any (bytes_eq name) names ≡ true
there_if names name e = go (list_any (bytes_eq name) names) refl (nat_lt (position_or_len (bytes_eq name) names) (length names)) refl e
  where
    go : (any : Bool) → list_any (bytes_eq name) names ≡ any → (b : Bool) → nat_lt (position_or_len (bytes_eq name) names) (length names) ≡ b
        → is_some (option_map suc (cond b (Some (position_or_len (bytes_eq name) names)) None)) ≡ true → any ≡ true
    go true f b g h = refl
    go false f true g h = let within = ltb-true (position_or_len (bytes_eq name) names) (length names) g in absurd (omega (arith, within, nowhere (bytes_eq name) names f))
    go false f false g h = absurd (cc h)

-- a name is found exactly if it is in the list
pub named_if : (names : List (List ℕ)) (name : List ℕ) → Contains names name → is_some (instance_of names name) ≡ true
named_if names name there = go (nat_lt (position_or_len (bytes_eq name) names) (length names)) refl
  where
    go : (b : Bool) → nat_lt (position_or_len (bytes_eq name) names) (length names) ≡ b → is_some (option_map suc (cond b (Some (position_or_len (bytes_eq name) names)) None)) ≡ true
    go true e = refl
    go false e = let past = ltb-false (position_or_len (bytes_eq name) names) (length names) e in absurd (omega (arith, past, somewhere (bytes_eq name) names (list_any-from_Contains nat_list_eq_equiv name names there)))

pub unnamed_if : (names : List (List ℕ)) (name : List ℕ) → (Contains names name → ⊥) → is_some (instance_of names name) ≡ false
unnamed_if names name absent = go (is_some (instance_of names name)) refl
  where
    go : (b : Bool) → is_some (instance_of names name) ≡ b → b ≡ false
    go true e = absurd (absent (Contains-found names name (there_if names name e)))
    go false e = refl

-- a name stays in the list
kept_in : (names processes : List (List ℕ)) (name : List ℕ) → list_any (bytes_eq name) names ≡ true → list_any (bytes_eq name) (names_from names processes) ≡ true
unfolding names_from
kept_in names [] name there = there
kept_in names (process ∷ processes) name there = kept_in (cond (is_some (instance_of names process)) names (names ++ process ∷ [])) processes name (go (is_some (instance_of names process)))
  where
    go : (b : Bool) → list_any (bytes_eq name) (cond b names (names ++ process ∷ [])) ≡ true
    go true = there
    go false = list_any-append (bytes_eq name) names (process ∷ []) ∙ ap (λ b. b || list_any (bytes_eq name) (process ∷ [])) there

-- the name of each process is in the list
all_in : (names processes : List (List ℕ)) (i : ℕ) → i < length processes → list_any (bytes_eq (get_or processes i [])) (names_from names processes) ≡ true
unfolding names_from
all_in names [] i within = absurd (omega (arith, within))
all_in names (process ∷ processes) zero within = kept_in (cond (is_some (instance_of names process)) names (names ++ process ∷ [])) processes process (go (is_some (instance_of names process)) refl)
  where
    or_true : (a : Bool) → (a || true) ≡ true
    or_true true = refl
    or_true false = refl

    go : (b : Bool) → is_some (instance_of names process) ≡ b → list_any (bytes_eq process) (cond b names (names ++ process ∷ [])) ≡ true
    go true e = there_if names process e
    go false e = list_any-append (bytes_eq process) names (process ∷ []) ∙ ap (λ b. list_any (bytes_eq process) names || (b || false)) ((bytes_decides process process).1 refl) ∙ or_true (list_any (bytes_eq process) names)
all_in names (process ∷ processes) (suc i) within = all_in (cond (is_some (instance_of names process)) names (names ++ process ∷ [])) processes i (omega (arith, within))

pub instance_within : (processes : List (List ℕ)) (line : ℕ) → 1 ≤ line → line ≤ length processes
    → (1 ≤ instance_at (names_from [] processes) processes line) × (instance_at (names_from [] processes) processes line ≤ length (names_from [] processes))
instance_within processes line first last =
    let within : line - 1 < length processes = omega (arith, first, last) in
    rw (slice_get-get_or processes (line - 1) [] within) (found (names_from [] processes) (get_or processes (line - 1) []) line (all_in [] processes (line - 1) within))
