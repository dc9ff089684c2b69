-- Words that are found in a list, or added at its end.
use Rattle.std.proofs.Common.{◌≡◌, ℕ, zero, suc, ◌+◌, ◌<◌, ◌≤◌, Bool, true, false, ◌||◌, cond, List, [], ◌∷◌, ◌++◌, None, Some, length, take, get_or, refl, sym, ap, ◌∙◌, subst, arith}
use Rattle.std.specs.Prelude.{bytes_eq, option_map, slice_get, fold, Contains}
use Rattle.chart.specs.Names.{instance_of}
use Rattle.log_chart.specs.Named.Entering.{with_word, place_in}
use Rattle.std.specs.List.{position_or_len, list_any}
use Rattle.std.proofs.lemmas.Bool.{false≢true, lt-ltb, le-ltb}
use Rattle.std.proofs.lemmas.List.{length-append}
use Rattle.std.proofs.lemmas.Option.{none-some}
use Rattle.std.proofs.lemmas.Slice.Eq.{bytes_eq-Decides}

module _ {X : Type 0} (test : X → Bool) where
  -- if one word passes, the first that passes is in the list
  pub found_within : (xs : List X) → list_any test xs ≡ true → position_or_len test xs < length xs
  found_within [] some = absurd (false≢true some)
  found_within (x ∷ xs) some = go (test x) refl some (λ rest. found_within xs rest)
    where
      go : (its : Bool) → test x ≡ its → list_any test (x ∷ xs) ≡ true → (list_any test xs ≡ true → position_or_len test xs < length xs) → position_or_len test (x ∷ xs) < length (x ∷ xs)
      go true e any rest = rw e (omega arith)
      go false e any rest = let less = rest (subst (λ b. (b || list_any test xs) ≡ true) e any) in rw e (omega (arith, less))

  pub not_found : (xs : List X) → list_any test xs ≡ false → position_or_len test xs ≡ length xs
  not_found [] none = refl
  not_found (x ∷ xs) none = go (test x) refl none (λ rest. not_found xs rest)
    where
      go : (its : Bool) → test x ≡ its → list_any test (x ∷ xs) ≡ false → (list_any test xs ≡ false → position_or_len test xs ≡ length xs) → position_or_len test (x ∷ xs) ≡ length (x ∷ xs)
      go true e any rest = absurd (false≢true (sym (subst (λ b. (b || list_any test xs) ≡ false) e any)))
      go false e any rest = let same = rest (subst (λ b. (b || list_any test xs) ≡ false) e any) in rw e (omega (arith, same))

  pub position_up : (xs : List X) → position_or_len test xs ≤ length xs
  position_up xs = go (list_any test xs) refl
    where
      go : (its : Bool) → list_any test xs ≡ its → position_or_len test xs ≤ length xs
      go true e = let less = found_within xs e in omega (arith, less)
      go false e = let same = not_found xs e in omega (arith, same)

  -- a word that was found, or is added, is in the list then
  pub put_within : (xs : List X) (x : X) → position_or_len test xs < length (cond (list_any test xs) xs (xs ++ x ∷ []))
  put_within xs x = go (list_any test xs) refl
    where
      go : (its : Bool) → list_any test xs ≡ its → position_or_len test xs < length (cond its xs (xs ++ x ∷ []))
      go true e = found_within xs e
      go false e = let same = not_found xs e in let longer = length-append xs (x ∷ []) in omega (arith, same, longer)

  pub put_longer : (xs : List X) (x : X) → length xs ≤ length (cond (list_any test xs) xs (xs ++ x ∷ []))
  put_longer xs x = go (list_any test xs)
    where
      go : (its : Bool) → length xs ≤ length (cond its xs (xs ++ x ∷ []))
      go true = omega arith
      go false = let longer = length-append xs (x ∷ []) in omega (arith, longer)

  pub put_by_one : (xs : List X) (x : X) → length (cond (list_any test xs) xs (xs ++ x ∷ [])) ≤ length xs + 1
  put_by_one xs x = go (list_any test xs)
    where
      go : (its : Bool) → length (cond its xs (xs ++ x ∷ [])) ≤ length xs + 1
      go true = omega arith
      go false = let longer = length-append xs (x ∷ []) in omega (arith, longer)

  -- the word there passes, and what was there before is still there
  pub put_passes : (xs : List X) (x : X) → test x ≡ true → (y : X) × (slice_get (cond (list_any test xs) xs (xs ++ x ∷ [])) (position_or_len test xs) ≡ Some y) × (test y ≡ true)
  put_passes [] x passes = (x, refl, passes)
  put_passes (z ∷ xs) x passes = go (test z) refl (list_any test xs) (put_passes xs x passes)
    where
      next : (ys : List X) (y : X) → slice_get ys (position_or_len test xs) ≡ Some y → slice_get (z ∷ ys) (1 + position_or_len test xs) ≡ Some y
      next ys y is = let same : suc (position_or_len test xs) ≡ 1 + position_or_len test xs = omega arith in subst (λ i. slice_get (z ∷ ys) i ≡ Some y) same is

      go : (its : Bool) → test z ≡ its → (some : Bool) → (y : X) × (slice_get (cond some xs (xs ++ x ∷ [])) (position_or_len test xs) ≡ Some y) × (test y ≡ true)
          → (y : X) × (slice_get (cond (its || some) (z ∷ xs) (z ∷ xs ++ x ∷ [])) (position_or_len test (z ∷ xs)) ≡ Some y) × (test y ≡ true)
      go true e some rest = (z, rw e refl, e)
      go false e true rest = (rest.0, rw e (next xs rest.0 rest.1), rest.2)
      go false e false rest = (rest.0, rw e (next (xs ++ x ∷ []) rest.0 rest.1), rest.2)

  pub put_keeps : (xs : List X) (x : X) (i : ℕ) (y : X) → slice_get xs i ≡ Some y → slice_get (cond (list_any test xs) xs (xs ++ x ∷ [])) i ≡ Some y
  put_keeps xs x i y is = go (list_any test xs)
    where
      longer : (ys : List X) (j : ℕ) → slice_get ys j ≡ Some y → slice_get (ys ++ x ∷ []) j ≡ Some y
      longer [] j at_j = absurd (none-some y at_j)
      longer (z ∷ ys) zero at_j = at_j
      longer (z ∷ ys) (suc j) at_j = longer ys j at_j

      go : (its : Bool) → slice_get (cond its xs (xs ++ x ∷ [])) i ≡ Some y
      go true = is
      go false = longer xs i is

  -- if no word passes, no such word is in the list
  none_has : (xs : List X) (x : X) → test x ≡ true → list_any test xs ≡ false → (k : ℕ) → k < length xs → get_or xs k x ≡ x → ⊥
  none_has [] x passes none k within is = omega (arith, within)
  none_has (z ∷ xs) x passes none k within is = go (test z) refl none k within is (λ others i. none_has xs x passes others i)
    where
      go : (its : Bool) → test z ≡ its → (its || list_any test xs) ≡ false → (k : ℕ) → k < length (z ∷ xs) → get_or (z ∷ xs) k x ≡ x
          → (list_any test xs ≡ false → (i : ℕ) → i < length xs → get_or xs i x ≡ x → ⊥) → ⊥
      go true e others k within is rest = false≢true (sym others)
      go false e others zero within is rest = false≢true (sym e ∙ ap test is ∙ passes)
      go false e others (suc k) within is rest = rest others k (omega (arith, within)) is

-- words that come one after another, each added if it is new
pub words_up : (words more : List (List ℕ)) → length words ≤ length (fold with_word words more)
words_up words [] = omega arith
words_up words (w ∷ more) =
    let one = put_longer (bytes_eq w) words w in
    let rest = words_up (with_word words w) more in
    omega (arith, one, rest)

pub words_some : (n : ℕ) (words more : List (List ℕ)) → length (fold with_word words (take n more)) ≤ length (fold with_word words more)
words_some zero words more = words_up words more
words_some (suc n) words [] = omega arith
words_some (suc n) words (w ∷ more) = words_some n (with_word words w) more

-- an instance that has the name, or none
some_same : {m k : ℕ} → Some m ≡ Some k → m ≡ k
some_same e = cc e

none_some : (k : ℕ) → None ≡ Some k → ⊥
none_some k e = absurd (cc e)

some_none : (k : ℕ) → Some k ≡ None → ⊥
some_none k e = absurd (cc e)

module _ (names : List (List ℕ)) (w : List ℕ) where
  pub there : (p : ℕ) → instance_of names w ≡ Some p → (p ≡ suc (place_in names w)) × (names ≡ with_word names w)
  there p is = go (list_any (bytes_eq w) names) refl
    where
      go : (its : Bool) → list_any (bytes_eq w) names ≡ its → (p ≡ suc (place_in names w)) × (names ≡ cond its names (names ++ w ∷ []))
      go true e =
          let less = found_within (bytes_eq w) names e in
          (sym (some_same (subst (λ b. option_map suc (cond b (Some (place_in names w)) None) ≡ Some p) (lt-ltb (place_in names w) (length names) less) is)), refl)
      go false e =
          let same = not_found (bytes_eq w) names e in
          absurd (none_some p (subst (λ b. option_map suc (cond b (Some (place_in names w)) None) ≡ Some p) (le-ltb (place_in names w) (length names) (omega (arith, same))) is))

  -- a name that no instance has
  pub lacks : instance_of names w ≡ None → list_any (bytes_eq w) names ≡ false
  lacks is = go (list_any (bytes_eq w) names) refl
    where
      go : (its : Bool) → list_any (bytes_eq w) names ≡ its → its ≡ false
      go true e =
          let less = found_within (bytes_eq w) names e in
          absurd (some_none (suc (place_in names w)) (subst (λ b. option_map suc (cond b (Some (place_in names w)) None) ≡ None) (lt-ltb (place_in names w) (length names) less) is))
      go false e = refl

  pub not_contained : instance_of names w ≡ None → Contains names w → ⊥
  not_contained is has = none_has (bytes_eq w) names w ((bytes_eq-Decides w w).1 refl) (lacks is) has.0 has.1 has.2

  pub absent : instance_of names w ≡ None → (length names + 1 ≡ suc (place_in names w)) × (names ++ w ∷ [] ≡ with_word names w)
  absent is = go (list_any (bytes_eq w) names) refl
    where
      go : (its : Bool) → list_any (bytes_eq w) names ≡ its → (length names + 1 ≡ suc (place_in names w)) × (names ++ w ∷ [] ≡ cond its names (names ++ w ∷ []))
      go true e =
          let less = found_within (bytes_eq w) names e in
          absurd (some_none (suc (place_in names w)) (subst (λ b. option_map suc (cond b (Some (place_in names w)) None) ≡ None) (lt-ltb (place_in names w) (length names) less) is))
      go false e = let same = not_found (bytes_eq w) names e in (omega (arith, same), refl)
