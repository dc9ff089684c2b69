-- The pairs in the list of those in opposite orders.
use Rattle.std.proofs.Common.{◌≡◌, ℕ, zero, suc, ◌+◌, ◌<◌, ◌≤◌, inl, inr, Bool, true, false, cond, List, [], ◌∷◌, ◌++◌, length, map, get_or, Option, None, Some, refl, sym, ap, ap₂, ◌∙◌, subst, arith, append_assoc, append-nil}
use Rattle.std.specs.Prelude.{nat_lt, AllPairs, Contains}
use Rattle.std.proofs.lemmas.List.Quantifiers.{all_pairs_push}
use Rattle.std.proofs.lemmas.List.{length-map, get_or-map}
use Rattle.std.proofs.lemmas.Bool.{cases_lt, ltb-true, lt-ltb}
use Rattle.std.proofs.lemmas.Option.{none-some, same_Some}
use Rattle.chart.proofs.Places.{each-push}
use Rattle.std.proofs.lemmas.List.Elements.{Contains-append_left, Contains-append_right, Contains-append_cases, Contains-push, Contains-push_cases, Contains-get_or}
use Rattle.cmd_compare.specs.declared.pairs.Difference.{Difference}
use Rattle.cmd_compare.specs.declared.pairs.Pair.{Pair}
use Rattle.cmd_compare.specs.Pairs.{IsSooner, found_at, pair_by, pairs_above, pairs_to, number_if, unmatched_to, greatest, AreAtMost, AreHighest}

-- an empty list has no element
pub has_none : {X : Type 0} (x : X) → Contains [] x → ⊥
has_none x (k, within, is) = omega (arith, within)

-- a list of one element has this element
pub has_one : {X : Type 0} (y x : X) → Contains (y ∷ []) x → y ≡ x
has_one y x has = elim (Contains-push_cases [] y x has) [ inl none ↦ absurd (has_none x none) | inr is ↦ is ]

-- the pair with these four numbers
abbrev pub pair_so : ℕ → ℕ → ℕ → ℕ → Pair
pair_so i j k l = record { earlier = i; later = j; earlier_there = k; later_there = l }

-- both events have a match, and the matches are in the opposite order
pub pair_by-has : (i j : ℕ) (a b : Option ℕ) (x : Pair) → Contains (pair_by i j a b) x → (k : ℕ) × (l : ℕ) × (a ≡ Some k) × (b ≡ Some l) × (l < k) × (pair_so i j k l ≡ x)
pair_by-has i j None None x has = absurd (has_none x has)
pair_by-has i j None (Some l) x has = absurd (has_none x has)
pair_by-has i j (Some k) None x has = absurd (has_none x has)
pair_by-has i j (Some k) (Some l) x has = by_test (nat_lt l k) refl has
  where
    by_test : (t : Bool) → nat_lt l k ≡ t → Contains (cond t (pair_so i j k l ∷ []) []) x → (n : ℕ) × (o : ℕ) × (Some k ≡ Some n) × (Some l ≡ Some o) × (o < n) × (pair_so i j n o ≡ x)
    by_test true less its = (k, l, refl, refl, ltb-true l k less, has_one (pair_so i j k l) x its)
    by_test false above its = absurd (has_none x its)

pub has-pair_by : (i j k l : ℕ) (a b : Option ℕ) → a ≡ Some k → b ≡ Some l → l < k → Contains (pair_by i j a b) (pair_so i j k l)
has-pair_by i j k l a b is also less =
    subst (λ x. Contains (pair_by i j x b) (pair_so i j k l)) (sym is)
    (subst (λ x. Contains (pair_by i j (Some k) x) (pair_so i j k l)) (sym also)
    (subst (λ t. Contains (cond t (pair_so i j k l ∷ []) []) (pair_so i j k l)) (sym (lt-ltb l k less)) (Contains-push [] (pair_so i j k l))))

module _ (found : List (Option ℕ)) where
  above-has : (j n : ℕ) (x : Pair) → Contains (pairs_above found j n) x → (i : ℕ) × (i < n) × Contains (pair_by (i + 1) (j + 1) (found_at found i) (found_at found j)) x
  above-has j zero x has = absurd (has_none x has)
  above-has j (suc n) x has =
      elim (Contains-append_cases (pairs_above found j n) (pair_by (n + 1) (j + 1) (found_at found n) (found_at found j)) x has) [
        | inl before ↦ let w = above-has j n x before in (w.0, omega (arith, w.1), w.2)
        | inr last ↦ (n, omega arith, last)
      ]

  has-above : (j n i : ℕ) (x : Pair) → i < n → Contains (pair_by (i + 1) (j + 1) (found_at found i) (found_at found j)) x → Contains (pairs_above found j n) x
  has-above j zero i x less has = absurd (omega arith)
  has-above j (suc n) i x less has =
      elim (cases_lt i n) [
        | inl before ↦ Contains-append_left (pairs_above found j n) (pair_by (n + 1) (j + 1) (found_at found n) (found_at found j)) x (has-above j n i x before has)
        | inr past ↦
            let e : i ≡ n = omega arith in
            Contains-append_right (pairs_above found j n) (pair_by (n + 1) (j + 1) (found_at found n) (found_at found j)) x
            (subst (λ k. Contains (pair_by (k + 1) (j + 1) (found_at found k) (found_at found j)) x) e has)
      ]

  -- a pair in the list is of two events with matches in the opposite order
  pub pairs_to-has : (n : ℕ) (x : Pair) → Contains (pairs_to found n) x → (i : ℕ) × (j : ℕ) × (i < j) × (j < n) × Contains (pair_by (i + 1) (j + 1) (found_at found i) (found_at found j)) x
  pairs_to-has zero x has = absurd (has_none x has)
  pairs_to-has (suc n) x has =
      elim (Contains-append_cases (pairs_to found n) (pairs_above found n n) x has) [
        | inl before ↦ let w = pairs_to-has n x before in (w.0, w.1, w.2, omega (arith, w.3), w.4)
        | inr last ↦ let w = above-has n n x last in (w.0, n, w.1, omega arith, w.2)
      ]

  -- and the list has the pair of any two such events
  pub has-pairs_to : (n i j : ℕ) (x : Pair) → i < j → j < n → Contains (pair_by (i + 1) (j + 1) (found_at found i) (found_at found j)) x → Contains (pairs_to found n) x
  has-pairs_to zero i j x less within has = absurd (omega arith)
  has-pairs_to (suc n) i j x less within has =
      elim (cases_lt j n) [
        | inl before ↦ Contains-append_left (pairs_to found n) (pairs_above found n n) x (has-pairs_to n i j x less before has)
        | inr past ↦
            let e : j ≡ n = omega arith in
            Contains-append_right (pairs_to found n) (pairs_above found n n) x
            (has-above n n i x (omega arith) (subst (λ k. Contains (pair_by (i + 1) (k + 1) (found_at found i) (found_at found k)) x) e has))
      ]

  -- the events without a match
  pub unmatched_to-has : (n i : ℕ) → Contains (unmatched_to found n) i → (k : ℕ) × (k < n) × (i ≡ k + 1) × (found_at found k ≡ None)
  unmatched_to-has zero i has = absurd (has_none i has)
  unmatched_to-has (suc n) i has =
      elim (Contains-append_cases (unmatched_to found n) (number_if (n + 1) (found_at found n)) i has) [
        | inl before ↦ let w = unmatched_to-has n i before in (w.0, omega (arith, w.1), w.2, w.3)
        | inr last ↦ by_value (found_at found n) refl last
      ]
    where
      by_value : (x : Option ℕ) → found_at found n ≡ x → Contains (number_if (n + 1) x) i → (k : ℕ) × (k < suc n) × (i ≡ k + 1) × (found_at found k ≡ None)
      by_value None is its = (n, omega arith, sym (has_one (n + 1) i its), is)
      by_value (Some j) is its = absurd (has_none i its)

  pub has-unmatched_to : (n k : ℕ) → k < n → found_at found k ≡ None → Contains (unmatched_to found n) (k + 1)
  has-unmatched_to zero k less none = absurd (omega arith)
  has-unmatched_to (suc n) k less none =
      elim (cases_lt k n) [
        | inl before ↦ Contains-append_left (unmatched_to found n) (number_if (n + 1) (found_at found n)) (k + 1) (has-unmatched_to n k before none)
        | inr past ↦
            let e : k ≡ n = omega arith in
            Contains-append_right (unmatched_to found n) (number_if (n + 1) (found_at found n)) (k + 1)
            (subst (λ x. Contains (number_if (x + 1) (found_at found x)) (k + 1)) e
            (subst (λ x. Contains (number_if (k + 1) x) (k + 1)) (sym none) (Contains-push [] (k + 1))))
      ]

-- elements that a function maps
pub has-map : {X Y : Type 0} (f : X → Y) (xs : List X) (x : X) → Contains xs x → Contains (map f xs) (f x)
has-map f [] x has = absurd (has_none x has)
has-map f (y ∷ xs) x has =
    elim (Contains-append_cases (y ∷ []) xs x has) [
      | inl first ↦ subst (λ z. Contains (f y ∷ map f xs) (f z)) (has_one y x first) (Contains-append_left (f y ∷ []) (map f xs) (f y) (Contains-push [] (f y)))
      | inr rest ↦ Contains-append_right (f y ∷ []) (map f xs) (f x) (has-map f xs x rest)
    ]

pub map-has : {X Y : Type 0} (f : X → Y) (xs : List X) (y : Y) → Contains (map f xs) y → (x : X) × Contains xs x × (f x ≡ y)
map-has f [] y has = absurd (has_none y has)
map-has f (z ∷ xs) y has =
    elim (Contains-append_cases (f z ∷ []) (map f xs) y has) [
      | inl first ↦ (z, Contains-append_left (z ∷ []) xs z (Contains-push [] z), has_one (f z) y first)
      | inr rest ↦ let w = map-has f xs y rest in (w.0, Contains-append_right (z ∷ []) xs w.0 w.1, w.2)
    ]

-- an element that all others are listed before comes last
rises-push : (xs : List Pair) (y : Pair) → AllPairs IsSooner xs → ((x : Pair) → Contains xs x → IsSooner x y) → AllPairs IsSooner (xs ++ y ∷ [])
rises-push xs y rising before = all_pairs_push IsSooner xs y rising (λ k d within. before (get_or xs k d) (Contains-get_or xs k d within))

-- the same for a list of at most one element
rises-by : (xs : List Pair) (i j : ℕ) (a b : Option ℕ) → AllPairs IsSooner xs → ((x : Pair) (k l : ℕ) → Contains xs x → IsSooner x (pair_so i j k l)) → AllPairs IsSooner (xs ++ pair_by i j a b)
rises-by xs i j None None rising before = subst (λ (l : List Pair). AllPairs IsSooner l) (sym (append-nil xs)) rising
rises-by xs i j None (Some l) rising before = subst (λ (l : List Pair). AllPairs IsSooner l) (sym (append-nil xs)) rising
rises-by xs i j (Some k) None rising before = subst (λ (l : List Pair). AllPairs IsSooner l) (sym (append-nil xs)) rising
rises-by xs i j (Some k) (Some l) rising before = by_test (nat_lt l k)
  where
    by_test : (t : Bool) → AllPairs IsSooner (xs ++ cond t (pair_so i j k l ∷ []) [])
    by_test true = rises-push xs (pair_so i j k l) rising (λ x has. before x k l has)
    by_test false = subst (λ (l : List Pair). AllPairs IsSooner l) (sym (append-nil xs)) rising

module _ (found : List (Option ℕ)) where
  -- the later event of a pair of the event at place j is this event
  above-later : (j n : ℕ) (x : Pair) → Contains (pairs_above found j n) x → (x.later ≡ j + 1) × (x.earlier ≤ n)
  above-later j n x has =
      let w = above-has found j n x has in
      let its = pair_by-has (w.0 + 1) (j + 1) (found_at found w.0) (found_at found j) x w.2 in
      let e : w.0 + 1 ≡ x.earlier = ap (λ (p : Pair). p.earlier) its.5 in
      (sym (ap (λ (p : Pair). p.later) its.5), omega (arith, e, w.1))

  above-rises : (xs : List Pair) (j : ℕ) → AllPairs IsSooner xs → ((x : Pair) → Contains xs x → x.later < j + 1) → (n : ℕ) → AllPairs IsSooner (xs ++ pairs_above found j n)
  above-rises xs j rising low zero = subst (λ (l : List Pair). AllPairs IsSooner l) (sym (append-nil xs)) rising
  above-rises xs j rising low (suc n) =
      subst (λ (l : List Pair). AllPairs IsSooner l) (append_assoc xs (pairs_above found j n) (pair_by (n + 1) (j + 1) (found_at found n) (found_at found j)))
      (rises-by (xs ++ pairs_above found j n) (n + 1) (j + 1) (found_at found n) (found_at found j) (above-rises xs j rising low n) before)
    where
      before : (x : Pair) (k l : ℕ) → Contains (xs ++ pairs_above found j n) x → IsSooner x (pair_so (n + 1) (j + 1) k l)
      before x k l has =
          elim (Contains-append_cases xs (pairs_above found j n) x has) [
            | inl first ↦ inl (low x first)
            | inr second ↦ let w = above-later j n x second in inr (w.0, omega (arith, w.1))
          ]

  -- the pairs are ordered by their later event, and then by their earlier one
  pub pairs_to-rises : (n : ℕ) → AllPairs IsSooner (pairs_to found n)
  pairs_to-rises zero = λ i j d less within. absurd (omega (arith, within))
  pairs_to-rises (suc n) = above-rises (pairs_to found n) n (pairs_to-rises n) low n
    where
      low : (x : Pair) → Contains (pairs_to found n) x → x.later < n + 1
      low x has =
          let w = pairs_to-has found n x has in
          let its = pair_by-has (w.0 + 1) (w.1 + 1) (found_at found w.0) (found_at found w.1) x w.4 in
          let e : w.1 + 1 ≡ x.later = ap (λ (p : Pair). p.later) its.5 in
          omega (arith, e, w.3)

  -- the numbers of the events without a match are rising
  pub unmatched_to-rises : (n : ℕ) → AllPairs (λ i j. i < j) (unmatched_to found n)
  unmatched_to-rises zero = λ i j d less within. absurd (omega (arith, within))
  unmatched_to-rises (suc n) = by_value (unmatched_to-rises n) (found_at found n)
    where
      by_value : AllPairs (λ i j. i < j) (unmatched_to found n) → (x : Option ℕ) → AllPairs (λ i j. i < j) (unmatched_to found n ++ number_if (n + 1) x)
      by_value rises None =
          all_pairs_push (λ i j. i < j) (unmatched_to found n) (n + 1) rises
          (λ k d within. let w = unmatched_to-has found n (get_or (unmatched_to found n) k d) (Contains-get_or (unmatched_to found n) k d within) in omega (arith, w.1, w.2))
      by_value rises (Some j) = subst (λ (l : List ℕ). AllPairs (λ i j. i < j) l) (sym (append-nil (unmatched_to found n))) rises

-- a function that keeps the pairs keeps their order
pub map-rises : (f : Pair → Difference) (xs : List Pair) → ((x : Pair) → (f x).pair ≡ x) → AllPairs IsSooner xs → AllPairs (λ (x : Difference) (y : Difference). IsSooner x.pair y.pair) (map f xs)
map-rises f xs keeps rising i j d less within =
    let many : length (map f xs) ≡ length xs = length-map xs f in
    let e = get_or-map f xs i d.pair d (omega (arith, less, within, many)) in
    let g = get_or-map f xs j d.pair d (omega (arith, within, many)) in
    let so = rising i j d.pair less (omega (arith, within, many)) in
    subst (λ (x : Difference). IsSooner x.pair (get_or (map f xs) j d).pair) (sym e)
    (subst (λ (y : Difference). IsSooner (f (get_or xs i d.pair)).pair y.pair) (sym g)
    (subst (λ (x : Pair). IsSooner x (f (get_or xs j d.pair)).pair) (sym (keeps (get_or xs i d.pair)))
    (subst (λ (y : Pair). IsSooner (get_or xs i d.pair) y) (sym (keeps (get_or xs j d.pair))) so)))

-- Events that may be skipped.

-- if the later event has no match, there is no pair
pub none_found : (found : List (Option ℕ)) (j n : ℕ) → found_at found j ≡ None → pairs_above found j n ≡ []
none_found found j zero is = refl
none_found found j (suc n) is = ap₂ (λ (xs : List Pair) (ys : List Pair). xs ++ ys) (none_found found j n is) (no_pair (found_at found n) (found_at found j) is)
  where
    no_pair : (x y : Option ℕ) → y ≡ None → pair_by (n + 1) (j + 1) x y ≡ []
    no_pair None y none = refl
    no_pair (Some k) None none = refl
    no_pair (Some k) (Some l) none = absurd (none-some l (sym none))

-- nor is there one with an event that doesn't follow it there
pub none_behind : (found : List (Option ℕ)) (j n l : ℕ) → found_at found j ≡ Some l → AreAtMost l found n → pairs_above found j n ≡ []
none_behind found j zero l is most = refl
none_behind found j (suc n) l is most =
    ap₂ (λ (xs : List Pair) (ys : List Pair). xs ++ ys) (none_behind found j n l is (λ i k less here. most i k (omega (arith, less)) here)) (no_pair (found_at found n) refl (found_at found j) is)
  where
    no_pair : (x : Option ℕ) → found_at found n ≡ x → (y : Option ℕ) → y ≡ Some l → pair_by (n + 1) (j + 1) x y ≡ []
    no_pair None here y its = refl
    no_pair (Some k) here None its = refl
    no_pair (Some k) here (Some m) its = by_test (nat_lt m k) refl
      where
        by_test : (t : Bool) → nat_lt m k ≡ t → cond t (pair_so (n + 1) (j + 1) k m ∷ []) [] ≡ []
        by_test false past = refl
        by_test true less = absurd (omega (arith, ltb-true m k less, most n k (omega arith) here, same_Some m l its))

-- the greatest number, with one more
pub at_most-push : (found : List (Option ℕ)) (highest n : ℕ) → AreAtMost highest found n → AreAtMost (greatest highest (found_at found n)) found (n + 1)
at_most-push found highest n most = λ i l less here. elim (cases_lt i n) [
  | inl before ↦ omega (arith, most i l before here, grows (found_at found n))
  | inr past ↦ let same : i ≡ n = omega (arith, less, past) in has (found_at found n) l (ap (found_at found) (sym same) ∙ here)
]
  where
    grows : (x : Option ℕ) → highest ≤ greatest highest x
    grows None = omega arith
    grows (Some k) = omega arith

    has : (x : Option ℕ) (l : ℕ) → x ≡ Some l → l ≤ greatest highest x
    has None l is = absurd (none-some l is)
    has (Some k) l is = omega (arith, same_Some k l is)

pub highest-push : (found : List (Option ℕ)) (highest : List ℕ) (n k : ℕ) → length highest ≡ n → AreHighest found highest → AreAtMost k found (n + 1) → AreHighest found (highest ++ k ∷ [])
highest-push found highest n k whole are most = each-push (λ i x. AreAtMost x found (suc i)) highest k are (subst (λ m. AreAtMost k found m) (omega (arith, whole)) most)

-- numbers that are at most k are at most any greater one
pub at_most_more : (found : List (Option ℕ)) (k l n : ℕ) → k ≤ l → AreAtMost k found n → AreAtMost l found n
at_most_more found k l n le most = λ i m less here. omega (arith, le, most i m less here)
