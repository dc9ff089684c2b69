-- A property of each element of a list, and a relation between each element and each later one.
use Rattle.std.proofs.Common.{◌≡◌, ℕ, zero, suc, Bool, true, false, cond, List, [], ◌∷◌, ◌++◌, Option, None, Some, filter, refl, ap, subst}
use Rattle.std.specs.Prelude.{slice_get, slice_set}
use Rattle.diagrams.specs.Messages.Each.{Each, Pairs}

module _ {A : Type 0} (P : A → Type 0) where
  pub each_append : (xs ys : List A) → Each P xs → Each P ys → Each P (xs ++ ys)
  each_append [] ys all more = more
  each_append (x ∷ xs) ys all more = (all.0, each_append xs ys all.1 more)

  pub each_front : (xs ys : List A) → Each P (xs ++ ys) → Each P xs
  each_front [] ys all = tt
  each_front (x ∷ xs) ys all = (all.0, each_front xs ys all.1)

  pub each_back : (xs ys : List A) → Each P (xs ++ ys) → Each P ys
  each_back [] ys all = all
  each_back (x ∷ xs) ys all = each_back xs ys all.1

  pub each_weaker : (Q : A → Type 0) → ((x : A) → P x → Q x) → (xs : List A) → Each P xs → Each Q xs
  each_weaker Q f [] all = tt
  each_weaker Q f (x ∷ xs) all = (f x all.0, each_weaker Q f xs all.1)

  pub each_filter : (test : A → Bool) (xs : List A) → Each P xs → Each P (filter test xs)
  each_filter test [] all = tt
  each_filter test (x ∷ xs) all = go (test x) (each_filter test xs all.1)
    where
      go : (its : Bool) → Each P (filter test xs) → Each P (cond its (x ∷ filter test xs) (filter test xs))
      go true rest = (all.0, rest)
      go false rest = rest

  -- one element, and another one in its place
  pub each_get : (xs : List A) (i : ℕ) (x : A) → slice_get xs i ≡ Some x → Each P xs → P x
  each_get [] i x at_i all = absurd (cc at_i)
  each_get (y ∷ xs) zero x at_i all = subst P (ap (λ (o : Option A). value_or y o) at_i) all.0
    where
      value_or : A → Option A → A
      value_or d None = d
      value_or d (Some z) = z
  each_get (y ∷ xs) (suc i) x at_i all = each_get xs i x at_i all.1

  pub each_set : (xs : List A) (i : ℕ) (y : A) → Each P xs → P y → Each P (slice_set xs i y)
  each_set [] i y all its = tt
  each_set (x ∷ xs) zero y all its = (its, all.1)
  each_set (x ∷ xs) (suc i) y all its = (all.0, each_set xs i y all.1 its)

  -- the elements that pass a test
  pub each_passing : (test : A → Bool) (xs : List A) → Each (λ x. test x ≡ true → P x) xs → Each P (filter test xs)
  each_passing test [] all = tt
  each_passing test (x ∷ xs) all = go (test x) refl (each_passing test xs all.1)
    where
      go : (its : Bool) → test x ≡ its → Each P (filter test xs) → Each P (cond its (x ∷ filter test xs) (filter test xs))
      go true e rest = (all.0 e, rest)
      go false e rest = rest

module _ {A : Type 0} (R : A → A → Type 0) where
  pub pairs_filter : (test : A → Bool) (xs : List A) → Pairs R xs → Pairs R (filter test xs)
  pairs_filter test [] all = tt
  pairs_filter test (x ∷ xs) all = go (test x) (pairs_filter test xs all.1)
    where
      go : (its : Bool) → Pairs R (filter test xs) → Pairs R (cond its (x ∷ filter test xs) (filter test xs))
      go true rest = (each_filter (R x) test xs all.0, rest)
      go false rest = rest

  -- the elements that pass a test; the relation need not hold for the others
  pub pairs_passing : (test : A → Bool) (xs : List A) → Pairs (λ x y. test x ≡ true → test y ≡ true → R x y) xs → Pairs R (filter test xs)
  pairs_passing test [] all = tt
  pairs_passing test (x ∷ xs) all = go (test x) refl (pairs_passing test xs all.1)
    where
      go : (its : Bool) → test x ≡ its → Pairs R (filter test xs) → Pairs R (cond its (x ∷ filter test xs) (filter test xs))
      go true e rest = (each_passing (R x) test xs (each_weaker (λ y. test x ≡ true → test y ≡ true → R x y) (λ y. test y ≡ true → R x y) (λ y f. f e) xs all.0), rest)
      go false e rest = rest

  pub pairs_weaker : (S : A → A → Type 0) → ((x y : A) → R x y → S x y) → (xs : List A) → Pairs R xs → Pairs S xs
  pairs_weaker S f [] all = tt
  pairs_weaker S f (x ∷ xs) all = (each_weaker (R x) (S x) (λ y. f x y) xs all.0, pairs_weaker S f xs all.1)

  -- one more element
  pub pairs_push : (xs : List A) (y : A) → Pairs R xs → Each (λ x. R x y) xs → Pairs R (xs ++ y ∷ [])
  pairs_push [] y all to = (tt, tt)
  pairs_push (x ∷ xs) y all to = (each_append (R x) xs (y ∷ []) all.0 (to.0, tt), pairs_push xs y all.1 to.1)

-- two tests, in either order
pub filter_swap : {A : Type 0} (f g : A → Bool) (xs : List A) → filter f (filter g xs) ≡ filter g (filter f xs)
filter_swap f g [] = refl
filter_swap f g (x ∷ xs) = go (f x) (g x) refl refl (filter_swap f g xs)
  where
    go : (i j : Bool) → f x ≡ i → g x ≡ j → filter f (filter g xs) ≡ filter g (filter f xs)
        → filter f (cond j (x ∷ filter g xs) (filter g xs)) ≡ filter g (cond i (x ∷ filter f xs) (filter f xs))
    go true true e d rest = rw (e, d) (ap (λ l. x ∷ l) rest)
    go true false e d rest = rw d rest
    go false true e d rest = rw e rest
    go false false e d rest = rest
