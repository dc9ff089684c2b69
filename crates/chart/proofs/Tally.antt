-- Places of a list, from 1, and how many of the events up to a place pass a test.
use Rattle.std.proofs.Common.{◌≡◌, ℕ, zero, suc, ◌+◌, ◌<◌, ◌≤◌, ◌⊎◌, inl, inr, Bool, true, false, cond, List, [], ◌∷◌, ◌++◌, length, take, drop, Some, count_by, refl, sym, ap, ◌∙◌, arith, add-one, take_all, length-take}
use Rattle.std.proofs.lemmas.Option.{none-some, same_Some, slice_get_within, slice_get_cases, get_or_from_slice_get}
use Rattle.std.proofs.lemmas.Bool.{cases_Bool, cases_lt}
use Rattle.std.proofs.lemmas.List.Sums.{sum_by_more}
use Rattle.std.proofs.lemmas.List.{take-append-le}
use Rattle.chart.specs.declared.event.Event.{Event}
use Rattle.chart.specs.Events.{ith, tally}

-- a place that has an element is from 1 to the length
pub ith_within : {X : Type 0} (xs : List X) (i : ℕ) (x : X) → ith xs i ≡ Some x → (1 ≤ i) × (i ≤ length xs)
ith_within xs zero x h = absurd (none-some x h)
ith_within xs (suc i) x h =
    let w : i < length xs = slice_get_within xs i x h in
    (omega arith, omega arith)

-- a place from 1 to the length has an element
pub ith_at : {X : Type 0} (xs : List X) (i : ℕ) → 1 ≤ i → i ≤ length xs → (x : X) × (ith xs i ≡ Some x)
ith_at xs zero low high = absurd (omega arith)
ith_at xs (suc i) low high =
    elim (slice_get_cases xs i).1 [
      | inl w ↦ (w.0, w.2)
      | inr w ↦ absurd (omega (arith, w.0))
    ]

-- a longer list has the same elements at the places of the shorter one
pub ith-append : {X : Type 0} (xs ys : List X) (i : ℕ) → i ≤ length xs → ith (xs ++ ys) i ≡ ith xs i
ith-append xs ys zero h = refl
ith-append [] ys (suc i) h = absurd (omega arith)
ith-append (x ∷ xs) ys (suc zero) h = refl
ith-append (x ∷ xs) ys (suc (suc i)) h = ith-append xs ys (suc i) (omega arith)

-- the first appended element
pub ith-append_next : {X : Type 0} (xs ys : List X) (y : X) → ith (xs ++ y ∷ ys) (suc (length xs)) ≡ Some y
ith-append_next [] ys y = refl
ith-append_next (x ∷ xs) ys y = ith-append_next xs ys y

-- the same, counted from the end
pub ith_push : {X : Type 0} (xs : List X) (y : X) → ith (xs ++ y ∷ []) (length xs + 1) ≡ Some y
ith_push xs y = ap (ith (xs ++ y ∷ [])) (add-one (length xs)) ∙ ith-append_next xs [] y

-- an element of two lists is the first's or the second's
pub ith_from_append : {X : Type 0} (xs ys : List X) (i : ℕ) (x : X) → ith (xs ++ ys) i ≡ Some x → (ith xs i ≡ Some x) ⊎ ((j : ℕ) × (i ≡ length xs + j) × (ith ys j ≡ Some x))
ith_from_append xs ys zero x h = absurd (none-some x h)
ith_from_append [] ys (suc i) x h = inr (suc i, omega arith, h)
ith_from_append (y ∷ xs) ys (suc zero) x h = inl h
ith_from_append (y ∷ xs) ys (suc (suc i)) x h =
    elim (ith_from_append xs ys (suc i) x h) [ inl w ↦ inl w | inr w ↦ inr (w.0, omega (arith, w.1), w.2) ]

-- an empty list has no element
pub ith_nil : {X : Type 0} (i : ℕ) (x : X) → ith [] i ≡ Some x → ⊥
ith_nil i x h = let w = ith_within [] i x h in omega arith

-- an element of a list of one is that one
pub ith_single : {X : Type 0} (y : X) (i : ℕ) (x : X) → ith (y ∷ []) i ≡ Some x → (i ≡ 1) × (y ≡ x)
ith_single y zero x h = absurd (none-some x h)
ith_single y (suc zero) x h = (omega arith, same_Some y x h)
ith_single y (suc (suc i)) x h = absurd (none-some x h)

-- the first element of the rest of a list
pub ith_at_drop : {X : Type 0} (n : ℕ) (xs : List X) (x : X) (rest : List X) → drop n xs ≡ x ∷ rest → ith xs (suc n) ≡ Some x
ith_at_drop zero [] x rest h = absurd (cc)
ith_at_drop zero (y ∷ xs) x rest h = let e : y ≡ x = cc in ap (λ z. Some z) e
ith_at_drop (suc n) [] x rest h = absurd (cc)
ith_at_drop (suc n) (y ∷ xs) x rest h = ith_at_drop n xs x rest h

-- the elements of a front of a list
pub ith-take : {X : Type 0} (n : ℕ) (xs : List X) (i : ℕ) → i ≤ n → ith (take n xs) i ≡ ith xs i
ith-take n xs zero h = refl
ith-take zero xs (suc i) h = absurd (omega arith)
ith-take (suc n) [] (suc i) h = refl
ith-take (suc n) (x ∷ xs) (suc zero) h = refl
ith-take (suc n) (x ∷ xs) (suc (suc i)) h = ith-take n xs (suc i) (omega arith)

-- an element of a front is within it, and is the list's
pub ith_from_take : {X : Type 0} (n : ℕ) (xs : List X) (i : ℕ) (x : X) → ith (take n xs) i ≡ Some x → (i ≤ n) × (ith xs i ≡ Some x)
ith_from_take n xs i x h =
    let within : i ≤ n = omega (arith, (ith_within (take n xs) i x h).1, length-take n xs) in
    (within, sym (ith-take n xs i within) ∙ h)

-- the event at a place is there, and passes the test
abbrev pub Passes : (Event → Bool) → List Event → ℕ → Type 0
Passes test xs i = (m : Event) × (ith xs i ≡ Some m) × (test m ≡ true)

-- the next event adds one if it passes
tally_next : (test : Event → Bool) (xs : List Event) (i : ℕ) (m : Event) → ith xs (suc i) ≡ Some m → tally test xs (suc i) ≡ tally test xs i + cond {A = ℕ} (test m) 1 0
tally_next test xs i m h =
    let e = sum_by_more (λ x. cond (test x) 1 0) xs i m (slice_get_within xs i m h) in
    rw (get_or_from_slice_get xs i m m h) at (rw add-one at e)

-- one place further the count is the same, or there is an event that passes, and the count is one more
pub tally_cases : (test : Event → Bool) (xs : List Event) (i : ℕ) → (tally test xs (suc i) ≡ tally test xs i) ⊎ (Passes test xs (suc i) × (tally test xs (suc i) ≡ tally test xs i + 1))
tally_cases test xs i =
    elim (slice_get_cases xs i).1 [
      | inl w ↦ step w.0 w.2 (cases_Bool (test w.0))
      | inr w ↦ inl (ap (count_by test) (take_all (suc i) xs (omega (arith, w.0)) ∙ sym (take_all i xs w.0)))
    ]
  where
    step : (m : Event) → ith xs (suc i) ≡ Some m → (test m ≡ true) ⊎ (test m ≡ false) → (tally test xs (suc i) ≡ tally test xs i) ⊎ (Passes test xs (suc i) × (tally test xs (suc i) ≡ tally test xs i + 1))
    step m h (inl t) = let e = rw t at (tally_next test xs i m h) in inr ((m, h, t), e)
    step m h (inr f) = let e = rw f at (tally_next test xs i m h) in inl (omega (arith, e))

-- up to a later place there are no fewer
pub tally-le : (test : Event → Bool) (xs : List Event) (i j : ℕ) → i ≤ j → tally test xs i ≤ tally test xs j
tally-le test xs i zero h = rw (let e : i ≡ zero = omega arith in e) (omega arith)
tally-le test xs i (suc j) h =
    elim (cases_lt j i) [
      | inl w ↦ let e : i ≡ suc j = omega arith in rw e (omega arith)
      | inr w ↦
          let before = tally-le test xs i j w in
          elim (tally_cases test xs j) [ inl e ↦ omega arith | inr e ↦ omega (arith, e.1) ]
    ]

-- up to a later event that passes there are more
pub tally-lt : (test : Event → Bool) (xs : List Event) (i j : ℕ) → i < j → Passes test xs j → tally test xs i < tally test xs j
tally-lt test xs i zero h p = absurd (omega arith)
tally-lt test xs i (suc j) h (m, at, t) =
    let before = tally-le test xs i j (omega arith) in
    let e = rw t at (tally_next test xs j m at) in
    omega (arith, e)

-- two events that pass, with as many up to each, are one
pub same_from_tally : (test : Event → Bool) (xs : List Event) (i j : ℕ) → Passes test xs i → Passes test xs j → tally test xs i ≡ tally test xs j → i ≡ j
same_from_tally test xs i j p q e =
    elim (cases_lt i j) [
      | inl w ↦ let l = tally-lt test xs i j w q in absurd (omega arith)
      | inr w ↦ elim (cases_lt j i) [ inl v ↦ let l = tally-lt test xs j i v p in absurd (omega arith) | inr v ↦ omega arith ]
    ]

-- each smaller count but 0 is reached at an event that passes
pub tally_reached : (test : Event → Bool) (xs : List Event) (n i : ℕ) → 1 ≤ n → n ≤ tally test xs i → (j : ℕ) × (j ≤ i) × Passes test xs j × (tally test xs j ≡ n)
tally_reached test xs n zero low high = absurd (omega arith)
tally_reached test xs n (suc i) low high =
    elim (cases_lt (tally test xs i) n) [
      | inl w ↦
          elim (tally_cases test xs i) [
            | inl e ↦ absurd (omega arith)
            | inr e ↦ (suc i, omega arith, e.0, omega (arith, e.1))
          ]
      | inr w ↦ let found = tally_reached test xs n i low w in (found.0, omega (arith, found.1), found.2, found.3)
    ]

-- up to a place of the shorter list there are as many in a longer one
pub tally-append : (test : Event → Bool) (xs ys : List Event) (i : ℕ) → i ≤ length xs → tally test (xs ++ ys) i ≡ tally test xs i
tally-append test xs ys i h = ap (count_by test) (take-append-le i xs ys h)

-- up to the end of a list all are counted
pub tally_all : (test : Event → Bool) (xs : List Event) (i : ℕ) → length xs ≤ i → tally test xs i ≡ count_by test xs
tally_all test xs i h = ap (count_by test) (take_all i xs h)

-- up to any place there are no more than on the whole line
pub tally-le-count_by : (test : Event → Bool) (xs : List Event) (i : ℕ) → tally test xs i ≤ count_by test xs
tally-le-count_by test xs i =
    elim (cases_lt i (length xs)) [
      | inl w ↦ let l = tally-le test xs i (length xs) (omega arith) in omega (arith, l, tally_all test xs (length xs) (omega arith))
      | inr w ↦ omega (arith, tally_all test xs i w)
    ]
