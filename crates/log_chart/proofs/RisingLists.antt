-- Lists of rising numbers.
use Rattle.std.proofs.Common.{◌≡◌, ℕ, ◌<◌, ◌≤◌, ◌⊎◌, inl, inr, Bool, true, false, cond, List, [], ◌∷◌, ◌++◌, filter, refl, sym, ap, ap₂, ◌∙◌, arith}
use Rattle.std.proofs.lemmas.Bool.{false≢true}
use Rattle.log_chart.specs.BegunTables.{IsRising}
use Rattle.log_chart.specs.Chains.{IsBelow}
use Rattle.log_chart.proofs.LaneLists.{Has}

pub below_has : (n s : ℕ) (xs : List ℕ) → IsBelow n xs → Has xs s → n < s
below_has n s [] below has = absurd has
below_has n s (x ∷ xs) below (inl e) = omega (arith, below.0, e)
below_has n s (x ∷ xs) below (inr has) = below_has n s xs below.1 has

pub below_all : (n : ℕ) (xs : List ℕ) → ((s : ℕ) → Has xs s → n < s) → IsBelow n xs
below_all n [] all = tt
below_all n (x ∷ xs) all = (all x (inl refl), below_all n xs (λ s has. all s (inr has)))

-- rising lists with the same numbers are equal
pub rising_same : (xs ys : List ℕ) → IsRising xs → IsRising ys → ((s : ℕ) → Has xs s → Has ys s) → ((s : ℕ) → Has ys s → Has xs s) → xs ≡ ys
rising_same [] [] one other to from = refl
rising_same [] (y ∷ ys) one other to from = absurd (from y (inl refl))
rising_same (x ∷ xs) [] one other to from = absurd (to x (inl refl))
rising_same (x ∷ xs) (y ∷ ys) one other to from = ap₂ (λ (a : ℕ) l. a ∷ l) heads (rising_same xs ys one.1 other.1 onward back)
  where
    least : (a b : ℕ) (zs : List ℕ) → IsBelow b zs → (b ≡ a) ⊎ Has zs a → b ≤ a
    least a b zs below (inl e) = omega (arith, e)
    least a b zs below (inr has) = let less = below_has b a zs below has in omega arith

    heads : x ≡ y
    heads = let down = least x y ys other.0 (to x (inl refl)) in let up = least y x xs one.0 (from y (inl refl)) in omega arith

    onward : (s : ℕ) → Has xs s → Has ys s
    onward s has = go (to s (inr has))
      where
        go : (y ≡ s) ⊎ Has ys s → Has ys s
        go (inl e) = absurd (let less = below_has x s xs one.0 has in omega (arith, less, heads, e))
        go (inr there) = there

    back : (s : ℕ) → Has ys s → Has xs s
    back s has = go (from s (inr has))
      where
        go : (x ≡ s) ⊎ Has xs s → Has xs s
        go (inl e) = absurd (let less = below_has y s ys other.0 has in omega (arith, less, heads, e))
        go (inr there) = there

-- a part of a rising list rises
module _ (p : ℕ → Bool) where
  pub has_some : (xs : List ℕ) (s : ℕ) → Has (filter p xs) s → Has xs s × (p s ≡ true)
  has_some [] s has = absurd has
  has_some (x ∷ xs) s has = go (p x) refl has (has_some xs s)
    where
      go : (its : Bool) → p x ≡ its → Has (cond its (x ∷ filter p xs) (filter p xs)) s → (Has (filter p xs) s → Has xs s × (p s ≡ true)) → ((x ≡ s) ⊎ Has xs s) × (p s ≡ true)
      go true e (inl same) rest = (inl same, ap p (sym same) ∙ e)
      go true e (inr there) rest = let more = rest there in (inr more.0, more.1)
      go false e there rest = let more = rest there in (inr more.0, more.1)

  pub some_has : (xs : List ℕ) (s : ℕ) → Has xs s → p s ≡ true → Has (filter p xs) s
  some_has [] s has passes = absurd has
  some_has (x ∷ xs) s (inl same) passes = go (p x) (ap p same ∙ passes)
    where
      go : (its : Bool) → its ≡ true → Has (cond its (x ∷ filter p xs) (filter p xs)) s
      go true e = inl same
      go false e = absurd (false≢true e)
  some_has (x ∷ xs) s (inr there) passes = go (p x) (some_has xs s there passes)
    where
      go : (its : Bool) → Has (filter p xs) s → Has (cond its (x ∷ filter p xs) (filter p xs)) s
      go true rest = inr rest
      go false rest = rest

  pub rising_some : (xs : List ℕ) → IsRising xs → IsRising (filter p xs)
  rising_some [] rising = tt
  rising_some (x ∷ xs) rising = go (p x) (rising_some xs rising.1)
    where
      go : (its : Bool) → IsRising (filter p xs) → IsRising (cond its (x ∷ filter p xs) (filter p xs))
      go true rest = (below_all x (filter p xs) (λ s has. below_has x s xs rising.0 (has_some xs s has).0), rest)
      go false rest = rest

pub has_either : (xs ys : List ℕ) (s : ℕ) → Has (xs ++ ys) s → Has xs s ⊎ Has ys s
has_either [] ys s has = inr has
has_either (x ∷ xs) ys s (inl e) = inl (inl e)
has_either (x ∷ xs) ys s (inr has) = elim (has_either xs ys s has) [ inl there ↦ inl (inr there) | inr there ↦ inr there ]

pub has_left : (xs ys : List ℕ) (s : ℕ) → Has xs s → Has (xs ++ ys) s
has_left [] ys s has = absurd has
has_left (x ∷ xs) ys s (inl e) = inl e
has_left (x ∷ xs) ys s (inr has) = inr (has_left xs ys s has)

pub has_right : (xs ys : List ℕ) (s : ℕ) → Has ys s → Has (xs ++ ys) s
has_right [] ys s has = has
has_right (x ∷ xs) ys s has = inr (has_right xs ys s has)

pub rising_joined : (xs ys : List ℕ) → IsRising xs → IsRising ys → ((s t : ℕ) → Has xs s → Has ys t → s < t) → IsRising (xs ++ ys)
rising_joined [] ys one other less = other
rising_joined (x ∷ xs) ys one other less = (
  below_all x (xs ++ ys) (λ s has. elim (has_either xs ys s has) [ inl there ↦ below_has x s xs one.0 there | inr there ↦ less x s (inl refl) there ]),
  rising_joined xs ys one.1 other (λ s t has there. less s t (inr has) there),
)
