-- Lemmas on differences: the changes of the first instances, one more instance at a time.
use Rattle.std.proofs.Common.{◌≡◌, ◌≢◌, ◌⊎◌, ℕ, suc, ◌+◌, ◌<◌, ◌≤◌, List, [], ◌∷◌, ◌++◌, map, length, get_or, set, take, drop, All, Contains, subst, refl, sym, ap, ◌∙◌, inl, inr, arith, append_assoc}
use Rattle.std.proofs.lemmas.Bool.{cases_lt, cases_eq}
use Rattle.std.proofs.lemmas.List.{take_more, drop_more, set_at, length-take-le, take_all, drop_all, append-nil, map_push, length_push, get_or_append_left, get_or_at, get_or_push}
use Rattle.std.proofs.lemmas.List.Elements.{All-nil, All-push, All-map, Contains-push, Contains-append_left, Contains-push_cases}
use Rattle.std.specs.List.Sorted.{IsStrictlyIncreasing}
use Rattle.clock.specs.Clocks.{with_entry}
use Rattle.clock.specs.Diffs.{apply_diff, IsChange, IsDiff, AgreeBut}
use Rattle.clock.specs.declared.diff.Change.{Change}

-- the changes of the first n instances, applied and counted
pub record IsDiffUpTo (base clock : List ℕ) (n : ℕ) (diff : List Change) : Type 0 where
  pub rising : IsStrictlyIncreasing (map (λ change. change.instance) diff)
  pub below : All (λ change. change.instance ≤ n) diff
  pub sound : (change : Change) → Contains diff change → IsChange base clock change
  pub complete : (change : Change) → IsChange base clock change → change.instance ≤ n → Contains diff change
  pub applied : apply_diff base diff ≡ take n clock ++ drop n base
  pub count : length diff ≤ n

-- a bound on the instances may be raised
lower : (n m : ℕ) (diff : List Change) → n ≤ m → All (λ change. change.instance ≤ n) diff → All (λ change. change.instance ≤ m) diff
lower n m diff le below k d within = let here : (get_or diff k d).instance ≤ n = below k d within in omega arith

-- the changes so far are of instances below the next one
below_next : (n : ℕ) (diff : List Change) → All (λ change. change.instance ≤ n) diff → All (λ p. p < suc n) (map (λ change. change.instance) diff)
below_next n diff below = All-map (λ p. p < suc n) (λ change. change.instance) diff (λ k d within. let here : (get_or diff k d).instance ≤ n = below k d within in omega arith)

-- no change is among the first 0
pub up_to_none : (base clock : List ℕ) → IsDiffUpTo base clock 0 []
up_to_none base clock = record {
  rising = λ k within. absurd (omega arith);
  below = All-nil _;
  sound = λ change (k, within, _). absurd (omega arith);
  complete = λ change is low. absurd (omega (arith, is.first));
  applied = refl;
  count = omega arith;
}

-- one more change is one more write
pub apply_diff-push : (clock : List ℕ) (diff : List Change) (change : Change) → apply_diff clock (diff ++ change ∷ []) ≡ with_entry (apply_diff clock diff) change.instance change.entry
apply_diff-push clock [] change = refl
apply_diff-push clock (first ∷ rest) change = apply_diff-push (with_entry clock first.instance first.entry) rest change

-- the clock's first entries and the base's others, with one more entry of the clock
seam_more : (base clock : List ℕ) (n : ℕ) → n < length clock → take (n + 1) clock ++ drop (n + 1) base ≡ take n clock ++ get_or clock n 0 ∷ drop (n + 1) base
seam_more base clock n within = rw (take_more clock n 0 within) (append_assoc (take n clock) (get_or clock n 0 ∷ []) (drop (n + 1) base))

-- an instance up to n + 1 is among the first n, or is the next one
next_or_low : (n p : ℕ) → p ≤ n + 1 → (p ≤ n) ⊎ (p ≡ suc n)
next_or_low n p low = elim (cases_lt n p) [ inl above ↦ inr (omega arith) | inr within ↦ inl within ]

-- the next instance has the same entry in both
pub up_to_same : (base clock : List ℕ) (n : ℕ) (diff : List Change) → n < length clock → length clock ≡ length base
    → get_or clock n 0 ≡ get_or base n 0 → IsDiffUpTo base clock n diff → IsDiffUpTo base clock (n + 1) diff
up_to_same base clock n diff within same entry h = record {
  rising = h.rising;
  below = lower n (n + 1) diff (omega arith) h.below;
  sound = h.sound;
  complete = λ change is low. elim (next_or_low n change.instance low) [
    | inl early ↦ h.complete change is early
    | inr next ↦ absurd ((rw next at is.differs) ((rw next at is.entry) ∙ entry))
  ];
  applied = h.applied ∙ ap (λ rest. take n clock ++ rest) (drop_more base n 0 (omega arith)) ∙ ap (λ x. take n clock ++ x ∷ drop (n + 1) base) (sym entry) ∙ sym (seam_more base clock n within);
  count = omega (arith, h.count);
}

-- after the changes so far the base's next entry is its own
pub base_next : (base clock : List ℕ) (n : ℕ) (diff : List Change) (now : List ℕ) → n < length clock → length clock ≡ length base
    → now ≡ apply_diff base diff → IsDiffUpTo base clock n diff → get_or now n 0 ≡ get_or base n 0
base_next base clock n diff now within same made h =
    ap (λ (xs : List ℕ). get_or xs n 0) (made ∙ h.applied ∙ ap (λ rest. take n clock ++ rest) (drop_more base n 0 (omega arith)))
    ∙ get_or_at (take n clock) (get_or base n 0) (drop (n + 1) base) 0 n (length-take-le n clock (omega arith))

-- the next change sets the base's next entry
pub based_push : (base : List ℕ) (n x : ℕ) (diff : List Change) (now : List ℕ) → now ≡ apply_diff base diff
    → set now n x ≡ apply_diff base (diff ++ record { instance = suc n; entry = x } ∷ [])
based_push base n x diff now made = ap (λ (xs : List ℕ). set xs n x) made ∙ sym (apply_diff-push base diff (record { instance = suc n; entry = x }))

-- the next four instances have the same entries in both
pub up_to_four : (base clock : List ℕ) (n : ℕ) (diff : List Change) → n + 4 ≤ length clock → length clock ≡ length base
    → get_or clock n 0 ≡ get_or base n 0 → get_or clock (n + 1) 0 ≡ get_or base (n + 1) 0
    → get_or clock (n + 2) 0 ≡ get_or base (n + 2) 0 → get_or clock (n + 3) 0 ≡ get_or base (n + 3) 0
    → IsDiffUpTo base clock n diff → IsDiffUpTo base clock (n + 4) diff
up_to_four base clock n diff within same first second third fourth h =
    let two : n + 1 + 1 ≡ n + 2 = omega arith in
    let three : n + 2 + 1 ≡ n + 3 = omega arith in
    let four : n + 3 + 1 ≡ n + 4 = omega arith in
    let at_1 : IsDiffUpTo base clock (n + 1) diff = up_to_same base clock n diff (omega arith) same first h in
    let at_2 : IsDiffUpTo base clock (n + 2) diff = subst (λ m. IsDiffUpTo base clock m diff) two (up_to_same base clock (n + 1) diff (omega arith) same second at_1) in
    let at_3 : IsDiffUpTo base clock (n + 3) diff = subst (λ m. IsDiffUpTo base clock m diff) three (up_to_same base clock (n + 2) diff (omega arith) same third at_2) in
    subst (λ m. IsDiffUpTo base clock m diff) four (up_to_same base clock (n + 3) diff (omega arith) same fourth at_3)

-- a number above the others goes last
rising_push : (xs : List ℕ) (x : ℕ) → IsStrictlyIncreasing xs → All (λ y. y < x) xs → IsStrictlyIncreasing (xs ++ x ∷ [])
rising_push xs x rising above k within = elim (cases_lt (k + 1) (length xs)) [
  | inl inside ↦ rw (get_or_append_left xs (x ∷ []) 0 k (omega arith), get_or_append_left xs (x ∷ []) 0 (k + 1) inside) (rising k inside)
  | inr outside ↦
      let size : length xs ≡ k + 1 = omega (arith, length_push xs x) in
      rw (get_or_append_left xs (x ∷ []) 0 k (omega arith), get_or_push xs x 0 (k + 1) size) (above k 0 (omega arith))
]

-- a change is its instance and its entry
same_change : (change : Change) (p x : ℕ) → p ≡ change.instance → x ≡ change.entry → record { instance = p; entry = x } ≡ change
same_change change p x same_instance same_entry =
    ap (λ i. record { instance = i; entry = x }) same_instance ∙ ap (λ e. record { instance = change.instance; entry = e }) same_entry

-- the base after the changes so far and the next one
applied_more : (base clock : List ℕ) (n x : ℕ) (clock' : List ℕ) → n < length clock → length clock ≡ length base → x ≡ get_or clock n 0
    → clock' ≡ take n clock ++ drop n base → set clock' n x ≡ take (n + 1) clock ++ drop (n + 1) base
applied_more base clock n x clock' within same entry applied =
    ap (λ w. set w n x) applied
    ∙ ap (λ rest. set (take n clock ++ rest) n x) (drop_more base n 0 (omega arith))
    ∙ set_at (take n clock) (get_or base n 0) (drop (n + 1) base) x n (length-take-le n clock (omega arith))
    ∙ ap (λ e. take n clock ++ e ∷ drop (n + 1) base) entry
    ∙ sym (seam_more base clock n within)

-- the next instance has different entries
pub up_to_change : (base clock : List ℕ) (n x : ℕ) (diff : List Change) → n < length clock → length clock ≡ length base
    → x ≡ get_or clock n 0 → x ≢ get_or base n 0 → IsDiffUpTo base clock n diff
    → IsDiffUpTo base clock (n + 1) (diff ++ record { instance = suc n; entry = x } ∷ [])
up_to_change base clock n x diff within same entry differs h =
    let change : Change = record { instance = suc n; entry = x } in
    let is : IsChange base clock change = record { first = omega arith; last = omega arith; entry = entry; differs = differs } in
    record {
      rising = rw (map_push (λ other. other.instance) diff change)
          (rising_push _ (suc n) h.rising (below_next n diff h.below));
      below = All-push (λ other. other.instance ≤ n + 1) diff change (lower n (n + 1) diff (omega arith) h.below) (omega arith);
      sound = λ other found. elim (Contains-push_cases diff change other found) [
        | inl earlier ↦ h.sound other earlier
        | inr last ↦ subst (IsChange base clock) last is
      ];
      complete = λ other other_is low. elim (next_or_low n other.instance low) [
        | inl early ↦ Contains-append_left diff (change ∷ []) other (h.complete other other_is early)
        | inr next ↦
            let entries : x ≡ other.entry = entry ∙ sym (rw next at other_is.entry) in
            subst (Contains (diff ++ change ∷ [])) (same_change other (suc n) x (sym next) entries) (Contains-push diff change)
      ];
      applied = apply_diff-push base diff change ∙ applied_more base clock n x _ within same entry h.applied;
      count = omega (arith, h.count, length_push diff change);
    }

-- the changes of all instances
pub up_to_all : (base clock : List ℕ) (n : ℕ) (diff : List Change) → length clock ≡ length base → n ≡ length clock
    → IsDiffUpTo base clock n diff → IsDiff base clock diff
up_to_all base clock n diff same all h = record {
  rising = h.rising;
  exact = λ change. (h.sound change, λ is. h.complete change is (omega (arith, is.last)));
}

-- the changes turn the base into the clock
pub restored : (base clock : List ℕ) (n : ℕ) (diff : List Change) → length clock ≡ length base → n ≡ length clock
    → IsDiffUpTo base clock n diff → apply_diff base diff ≡ clock
restored base clock n diff same all h =
    h.applied ∙ ap (λ rest. take n clock ++ rest) (drop_all n base (omega arith)) ∙ append-nil (take n clock) ∙ take_all n clock (omega arith)

-- if only the entry of one instance differs, each change is of this instance
of_one : (p : ℕ) (base clock : List ℕ) (change : Change) → AgreeBut p base clock → IsChange base clock change → change.instance ≡ p
of_one p base clock change agree is = elim (cases_eq change.instance p) [
  | inl same ↦ same
  | inr other ↦ absurd (is.differs (is.entry ∙ agree change.instance other))
]

-- so there is at most one change
pub one_change : (p n : ℕ) (base clock : List ℕ) (diff : List Change) → AgreeBut p base clock → IsDiffUpTo base clock n diff → length diff ≤ 1
one_change p n base clock [] agree h = omega arith
one_change p n base clock (a ∷ []) agree h = omega arith
one_change p n base clock (a ∷ b ∷ rest) agree h =
    let first : a.instance ≡ p = of_one p base clock a agree (h.sound a (0, omega arith, refl)) in
    let second : b.instance ≡ p = of_one p base clock b agree (h.sound b (1, omega arith, refl)) in
    let less : a.instance < b.instance = h.rising 0 (omega arith) in
    absurd (omega arith)
