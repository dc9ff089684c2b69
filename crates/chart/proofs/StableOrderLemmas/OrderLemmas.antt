-- Things in the order of their numbers.
use Rattle.std.proofs.Common.{◌≡◌, ℕ, suc, ◌+◌, ◌<◌, ◌≤◌, ◌==◌, ◌&&◌, not, Bool, true, false, cond, ◌⊎◌, inl, inr, Less, Equal, Greater, List, [], ◌∷◌, ◌++◌, length, drop, get_or, filter, AllPairs, refl, sym, ap, ap₂, ◌∙◌, subst, arith, append_assoc}
use Rattle.std.specs.Prelude.{nat_lt, fold}
use Rattle.std.specs.List.Sorted.{IsNonDecreasingBy, IsStableByKey, ties}
use Rattle.std.specs.Ordering.{is_lt, nat_cmp}
use Rattle.std.proofs.lemmas.Bool.{eqb-true, eqb-false, eq-eqb, ne_eqb, ltb-true, ltb-false}
use Rattle.std.proofs.lemmas.List.{append-nil}
use Rattle.std.proofs.lemmas.List.Elements.{filter_agree, filter-append}
use Rattle.chart.specs.StableOrder.Order.{put_by, in_order_by}

-- Numbers.

pub at_most : (x y : ℕ) → (x < y → ⊥) → y ≤ x
at_most x y never = go (nat_lt x y) refl
  where
    go : (less : Bool) → nat_lt x y ≡ less → y ≤ x
    go true e = absurd (never (ltb-true x y e))
    go false e = ltb-false x y e

-- the order of numbers by its test
less : (x y : ℕ) → is_lt (nat_cmp x y) ≡ nat_lt x y
less x y = go (nat_lt x y) (x == y)
  where
    go : (l e : Bool) → is_lt (cond l Less (cond e Equal Greater)) ≡ l
    go true e = refl
    go false true = refl
    go false false = refl

-- two numbers are equal exactly if neither is less
neither_less : (x y : ℕ) → (x == y) ≡ not (nat_lt y x) && not (nat_lt x y)
neither_less x y = go (nat_lt y x) (nat_lt x y) refl refl
  where
    go : (l r : Bool) → nat_lt y x ≡ l → nat_lt x y ≡ r → (x == y) ≡ not l && not r
    go true r e f = ne_eqb x y (λ same. let more = ltb-true y x e in absurd (omega arith))
    go false true e f = ne_eqb x y (λ same. let more = ltb-true x y f in absurd (omega arith))
    go false false e f = let up = ltb-false y x e in let down = ltb-false x y f in eq-eqb x y (omega arith)

module _ {X : Type 0} (key : X → ℕ) where
  -- no thing has a lower number
  unfoldable pub Least : ℕ → List X → Type 0
  Least t [] = Unit {0}
  Least t (x ∷ xs) = (t ≤ key x) × Least t xs

  -- no thing comes before one with a lower number
  unfoldable pub Rising : List X → Type 0
  Rising [] = Unit {0}
  Rising (x ∷ xs) = Least (key x) xs × Rising xs

  -- the things with this number
  abbrev pub of_key : ℕ → List X → List X
  of_key t things = filter (λ (x : X). key x == t) things

  least_down : (t u : ℕ) (xs : List X) → t ≤ u → Least u xs → Least t xs
  unfolding Least
  least_down t u [] le least = tt
  least_down t u (x ∷ xs) le least = (omega (arith, least.0), least_down t u xs le least.1)

  -- no thing has a lower number
  none_above : (t u : ℕ) (xs : List X) → t < u → Least u xs → of_key t xs ≡ []
  unfolding Least
  none_above t u [] lt least = refl
  none_above t u (x ∷ xs) lt least = rw (ne_eqb (key x) t (λ same. absurd (omega (arith, least.0)))) (none_above t u xs lt least.1)

  pub least_filter : (t : ℕ) (test : X → Bool) (xs : List X) → Least t xs → Least t (filter test xs)
  unfolding Least
  least_filter t test [] least = tt
  least_filter t test (x ∷ xs) least = go (test x) (least_filter t test xs least.1)
    where
      go : (its : Bool) → Least t (filter test xs) → Least t (cond its (x ∷ filter test xs) (filter test xs))
      go true rest = (least.0, rest)
      go false rest = rest

  pub rising_filter : (test : X → Bool) (xs : List X) → Rising xs → Rising (filter test xs)
  unfolding Rising
  rising_filter test [] rising = tt
  rising_filter test (x ∷ xs) rising = go (test x) (rising_filter test xs rising.1)
    where
      go : (its : Bool) → Rising (filter test xs) → Rising (cond its (x ∷ filter test xs) (filter test xs))
      go true rest = (least_filter (key x) test xs rising.0, rest)
      go false rest = rest

  -- What is put in.

  put_least : (t : ℕ) (xs : List X) (e : X) → Least t xs → t ≤ key e → Least t (put_by key xs e)
  unfolding Least put_by
  put_least t [] e least le = (le, tt)
  put_least t (x ∷ xs) e least le = go (nat_lt (key e) (key x)) (put_least t xs e least.1 le)
    where
      go : (its : Bool) → Least t (put_by key xs e) → Least t (cond its (e ∷ x ∷ xs) (x ∷ put_by key xs e))
      go true more = (le, least)
      go false more = (least.0, more)

  put_rising : (xs : List X) (e : X) → Rising xs → Rising (put_by key xs e)
  unfolding Least Rising put_by
  put_rising [] e rising = (tt, tt)
  put_rising (x ∷ xs) e rising = go (nat_lt (key e) (key x)) refl (put_rising xs e rising.1)
    where
      go : (its : Bool) → nat_lt (key e) (key x) ≡ its → Rising (put_by key xs e) → Rising (cond its (e ∷ x ∷ xs) (x ∷ put_by key xs e))
      go true less more =
          let before = ltb-true (key e) (key x) less in
          ((omega arith, least_down (key e) (key x) xs (omega arith) rising.0), rising)
      go false less more = let after = ltb-false (key e) (key x) less in (put_least (key x) xs e rising.0 after, more)

  put_kept : (t : ℕ) (xs : List X) (e : X) → Rising xs → of_key t (put_by key xs e) ≡ of_key t (xs ++ e ∷ [])
  unfolding Least Rising put_by
  put_kept t [] e rising = refl
  put_kept t (x ∷ xs) e rising = go (nat_lt (key e) (key x)) refl (put_kept t xs e rising.1)
    where
      first : (its : Bool) → (key e == t) ≡ its → key e < key x → cond its (e ∷ of_key t (x ∷ xs)) (of_key t (x ∷ xs)) ≡ of_key t (x ∷ xs) ++ cond its (e ∷ []) []
      first true same less =
          let number = eqb-true (key e) t same in
          rw (none_above t (key x) (x ∷ xs) (omega arith) (omega arith, rising.0)) refl
      first false same less = sym (append-nil (of_key t (x ∷ xs)))

      go : (its : Bool) → nat_lt (key e) (key x) ≡ its → of_key t (put_by key xs e) ≡ of_key t (xs ++ e ∷ []) → of_key t (cond its (e ∷ x ∷ xs) (x ∷ put_by key xs e)) ≡ of_key t (x ∷ xs ++ e ∷ [])
      go true less more = first (key e == t) refl (ltb-true (key e) (key x) less) ∙ sym (filter-append (λ (y : X). key y == t) (x ∷ xs) (e ∷ []))
      go false less more = ap (λ l. cond (key x == t) (x ∷ l) l) more

  -- things are put in one after another
  fold_rising : (acc things : List X) → Rising acc → Rising (fold (put_by key) acc things)
  fold_rising acc [] rising = rising
  fold_rising acc (e ∷ things) rising = fold_rising (put_by key acc e) things (put_rising acc e rising)

  fold_kept : (t : ℕ) (acc things : List X) → Rising acc → of_key t (fold (put_by key) acc things) ≡ of_key t (acc ++ things)
  fold_kept t acc [] rising = ap (of_key t) (sym (append-nil acc))
  fold_kept t acc (e ∷ things) rising =
      fold_kept t (put_by key acc e) things (put_rising acc e rising)
      ∙ filter-append (λ (y : X). key y == t) (put_by key acc e) things
      ∙ ap (λ l. l ++ of_key t things) (put_kept t acc e rising)
      ∙ sym (filter-append (λ (y : X). key y == t) (acc ++ e ∷ []) things)
      ∙ ap (of_key t) (append_assoc acc (e ∷ []) things)

  pub order_rises : (things : List X) → Rising (in_order_by key things)
  unfolding Rising in_order_by
  order_rises things = fold_rising [] things tt

  pub order_kept : (t : ℕ) (things : List X) → of_key t (in_order_by key things) ≡ of_key t things
  unfolding Rising in_order_by
  order_kept t things = fold_kept t [] things tt

  -- no thing is lost or added
  put_length : (xs : List X) (e : X) → length (put_by key xs e) ≡ suc (length xs)
  unfolding put_by
  put_length [] e = refl
  put_length (x ∷ xs) e = go (nat_lt (key e) (key x)) (put_length xs e)
    where
      go : (its : Bool) → length (put_by key xs e) ≡ suc (length xs) → length (cond its (e ∷ x ∷ xs) (x ∷ put_by key xs e)) ≡ suc (suc (length xs))
      go true more = refl
      go false more = ap suc more

  fold_length : (acc things : List X) → length (fold (put_by key) acc things) ≡ length acc + length things
  fold_length acc [] = omega arith
  fold_length acc (e ∷ things) = omega (arith, fold_length (put_by key acc e) things, put_length acc e)

  pub order_length : (things : List X) → length (in_order_by key things) ≡ length things
  unfolding in_order_by
  order_length things = omega (arith, fold_length [] things)

  -- There is only one such list.

  -- if two lists have the same things of each number, neither first thing has a lower number than the other
  no_earlier : (a b : X) (xs ys : List X) → Rising (b ∷ ys) → of_key (key a) (a ∷ xs) ≡ of_key (key a) (b ∷ ys) → key a < key b → ⊥
  unfolding Least Rising
  no_earlier a b xs ys rising same less =
      let none : of_key (key a) (b ∷ ys) ≡ [] = none_above (key a) (key b) (b ∷ ys) less (omega arith, rising.0) in
      let some : length (of_key (key a) (a ∷ xs)) ≡ suc (length (of_key (key a) xs)) = rw (eq-eqb (key a) (key a) refl) refl in
      omega (arith, some, ap length (same ∙ none))

  -- there is only one order of things by their numbers
  pub same_by_key : (xs ys : List X) → Rising xs → Rising ys → ((t : ℕ) → of_key t xs ≡ of_key t ys) → xs ≡ ys
  unfolding Rising
  same_by_key [] [] one other same = refl
  same_by_key [] (b ∷ ys) one other same = absurd (omega (arith, ap length (same (key b)), rw (eq-eqb (key b) (key b) refl) at (ap length (same (key b)))))
  same_by_key (a ∷ xs) [] one other same = absurd (omega (arith, rw (eq-eqb (key a) (key a) refl) at (ap length (same (key a)))))
  same_by_key (a ∷ xs) (b ∷ ys) one other same =
      let below = at_most (key a) (key b) (no_earlier a b xs ys other (same (key a))) in
      let above = at_most (key b) (key a) (no_earlier b a ys xs one (sym (same (key b)))) in
      let number : key b ≡ key a = omega arith in
      let heads : a ∷ of_key (key a) xs ≡ b ∷ of_key (key a) ys = rw (eq-eqb (key a) (key a) refl, eq-eqb (key b) (key a) number) at (same (key a)) in
      ap₂ (λ (e : X) things. e ∷ things) (ap (λ things. get_or things 0 a) heads)
      (same_by_key xs ys one.1 other.1 (λ t. rests t (key a == t) refl number (ap (drop 1) heads) (same t)))
    where
      rests : (t : ℕ) (its : Bool) → (key a == t) ≡ its → key b ≡ key a → of_key (key a) xs ≡ of_key (key a) ys → of_key t (a ∷ xs) ≡ of_key t (b ∷ ys) → of_key t xs ≡ of_key t ys
      rests t true e number tails whole = subst (λ x. of_key x xs ≡ of_key x ys) (eqb-true (key a) t e) tails
      rests t false e number tails whole = rw (e, ne_eqb (key b) t (λ to. eqb-false (key a) t e (sym number ∙ to))) at whole

  -- A stable sort.

  least_of : (t : ℕ) (xs : List X) → ((i : ℕ) (d : X) → i < length xs → t ≤ key (get_or xs i d)) → Least t xs
  unfolding Least
  least_of t [] all = tt
  least_of t (x ∷ xs) all = (all 0 x (omega arith), least_of t xs (λ i d within. all (suc i) d (omega arith)))

  -- a list in which no number falls
  pub rising_of : (xs : List X) → IsNonDecreasingBy key xs → Rising xs
  unfolding Rising
  rising_of [] all = tt
  rising_of (x ∷ xs) all =
      (least_of (key x) xs (λ i d within. all 0 (suc i) d (omega arith) (omega arith)), rising_of xs (λ i j d less within. all (suc i) (suc j) d (omega arith) (omega arith)))

  -- the same, stated for pairs
  pub rising_pairs : (xs : List X) → AllPairs (λ (a : X) (b : X). key a ≤ key b) xs → Rising xs
  unfolding Rising
  rising_pairs [] all = tt
  rising_pairs (x ∷ xs) all =
      (least_of (key x) xs (λ i d within. all 0 (suc i) d (omega arith) (omega arith)), rising_pairs xs (λ i j d less within. all (suc i) (suc j) d (omega arith) (omega arith)))

  -- no thing has the number, or some thing has it
  has_key : (t : ℕ) (xs : List X) → (of_key t xs ≡ []) ⊎ ((x : X) × (key x ≡ t))
  has_key t [] = inl refl
  has_key t (x ∷ xs) = go (key x == t) refl (has_key t xs)
    where
      go : (its : Bool) → (key x == t) ≡ its → (of_key t xs ≡ []) ⊎ ((x : X) × (key x ≡ t)) → (cond its (x ∷ of_key t xs) (of_key t xs) ≡ []) ⊎ ((x : X) × (key x ≡ t))
      go true e rest = inr (x, eqb-true (key x) t e)
      go false e rest = rest

  -- a stable sort keeps the order of the things of each number
  pub key_kept : (came listed : List X) → IsStableByKey key nat_cmp came listed → (t : ℕ) → of_key t listed ≡ of_key t came
  key_kept came listed stable t = go (has_key t listed) (has_key t came)
    where
      tie : X → X → Bool
      tie y x = ties (λ (a : X) (b : X). is_lt (nat_cmp (key a) (key b))) y x

      alike : (y x : X) → key y ≡ t → (key x == t) ≡ tie y x
      alike y x is = rw (less (key y) (key x), less (key x) (key y), sym is) (neither_less (key x) (key y))

      with : (y : X) → key y ≡ t → of_key t listed ≡ of_key t came
      with y is = filter_agree (λ (x : X). key x == t) (tie y) (λ x. alike y x is) listed ∙ stable y ∙ sym (filter_agree (λ (x : X). key x == t) (tie y) (λ x. alike y x is) came)

      go : ((of_key t listed ≡ []) ⊎ ((x : X) × (key x ≡ t))) → ((of_key t came ≡ []) ⊎ ((x : X) × (key x ≡ t))) → of_key t listed ≡ of_key t came
      go (inr its) other = with its.0 its.1
      go (inl none) (inr its) = with its.0 its.1
      go (inl none) (inl never) = none ∙ sym never

  -- what a stable sort leaves
  pub by_key : (came listed : List X) → IsNonDecreasingBy key listed → IsStableByKey key nat_cmp came listed → listed ≡ in_order_by key came
  by_key came listed rising stable =
      same_by_key listed (in_order_by key came) (rising_of listed rising) (order_rises came) (λ t. key_kept came listed stable t ∙ sym (order_kept t came))
