-- Rising lists of numbers: the elements determine the list, and the numbers that pass a test have such a list.
use Rattle.std.proofs.Common.{◌≡◌, ℕ, zero, suc, ◌<◌, ◌≤◌, ◌↔◌, ◌⊎◌, inl, inr, Bool, true, List, [], ◌∷◌, ◌++◌, get_or, AllPairs, Contains, refl, sym, ap₂, ◌∙◌, subst, arith}
use Rattle.std.proofs.lemmas.Bool.{cases_eq, cases_Bool, false≢true}
use Rattle.std.proofs.lemmas.List.Elements.{Contains-append_left, Contains-push, Contains-push_cases, Contains-get_or}
use Rattle.std.proofs.lemmas.List.Quantifiers.{all_pairs_push}

-- each number is below all later ones
abbrev pub IsRising : List ℕ → Type 0
IsRising xs = AllPairs (λ i j. i < j) xs

-- an element of a list is its head or one of the rest
Contains-cons_cases : (x : ℕ) (xs : List ℕ) (j : ℕ) → Contains (x ∷ xs) j → (x ≡ j) ⊎ Contains xs j
Contains-cons_cases x xs j (zero, within, same) = inl same
Contains-cons_cases x xs j (suc k, within, same) = inr (k, omega arith, same)

-- an element of the rest is one of the whole list
Contains-cons : (x : ℕ) (xs : List ℕ) (j : ℕ) → Contains xs j → Contains (x ∷ xs) j
Contains-cons x xs j (k, within, same) = (suc k, omega arith, same)

-- the head of a rising list is below the rest
head_below : (x : ℕ) (xs : List ℕ) (j : ℕ) → IsRising (x ∷ xs) → Contains xs j → x < j
head_below x xs j rising (k, within, same) = subst (λ y. x < y) same (rising 0 (suc k) j (omega arith) (omega arith))

-- the rest of a rising list is rising
IsRising-tail : (x : ℕ) (xs : List ℕ) → IsRising (x ∷ xs) → IsRising xs
IsRising-tail x xs rising = λ i j d less within. rising (suc i) (suc j) d (omega arith) (omega arith)

-- two rising lists with the same elements are equal
pub same_rising : (xs ys : List ℕ) → IsRising xs → IsRising ys → ((j : ℕ) → Contains xs j ↔ Contains ys j) → xs ≡ ys
same_rising [] [] a b same = refl
same_rising [] (y ∷ ys) a b same = let w = (same y).1 (0, omega arith, refl) in absurd (omega (arith, w.1))
same_rising (x ∷ xs) [] a b same = let w = (same x).0 (0, omega arith, refl) in absurd (omega (arith, w.1))
same_rising (x ∷ xs) (y ∷ ys) a b same =
    let below : y ≤ x = elim (Contains-cons_cases y ys x ((same x).0 (0, omega arith, refl))) [ inl e ↦ omega arith | inr w ↦ let l = head_below y ys x b w in omega arith ] in
    let above : x ≤ y = elim (Contains-cons_cases x xs y ((same y).1 (0, omega arith, refl))) [ inl e ↦ omega arith | inr w ↦ let l = head_below x xs y a w in omega arith ] in
    let head : x ≡ y = omega arith in
    ap₂ (λ u v. u ∷ v) head
    (same_rising xs ys (IsRising-tail x xs a) (IsRising-tail y ys b) (λ j. (
      λ here. elim (Contains-cons_cases y ys j ((same j).0 (Contains-cons x xs j here))) [
        | inl e ↦ let l = head_below x xs j a here in absurd (omega arith)
        | inr w ↦ w
      ],
      λ there. elim (Contains-cons_cases x xs j ((same j).1 (Contains-cons y ys j there))) [
        | inl e ↦ let l = head_below y ys j b there in absurd (omega arith)
        | inr w ↦ w
      ],
    )))

-- the numbers from 1 to n that pass a test, rising
pub passing : (test : ℕ → Bool) (n : ℕ) → (xs : List ℕ) × IsRising xs × ((j : ℕ) → Contains xs j ↔ ((1 ≤ j) × (j ≤ n) × (test j ≡ true)))
passing test zero = ([], λ i j d less within. absurd (omega arith), λ j. (λ here. absurd (omega (arith, here.1)), λ w. absurd (omega arith)))
passing test (suc n) =
    let w = passing test n in
    elim (cases_Bool (test (suc n))) [
      | inl passes ↦ (
        w.0 ++ suc n ∷ [],
        all_pairs_push (λ i j. i < j) w.0 (suc n) w.1 (λ k d within. let below = ((w.2 (get_or w.0 k d)).0 (Contains-get_or w.0 k d within)).1 in omega arith),
        λ j. (
          λ here. elim (Contains-push_cases w.0 (suc n) j here) [
            | inl old ↦ let v = (w.2 j).0 old in (v.0, omega (arith, v.1), v.2)
            | inr new ↦ (omega arith, omega arith, subst (λ x. test x ≡ true) new passes)
          ],
          λ v. elim (cases_eq j (suc n)) [
            | inl last ↦ subst (λ x. Contains (w.0 ++ suc n ∷ []) x) (sym last) (Contains-push w.0 (suc n))
            | inr differs ↦ Contains-append_left w.0 (suc n ∷ []) j ((w.2 j).1 (v.0, omega (arith, v.1), v.2))
          ],
        ),
      )
      | inr fails ↦ (
        w.0,
        w.1,
        λ j. (
          λ here. let v = (w.2 j).0 here in (v.0, omega (arith, v.1), v.2),
          λ v. elim (cases_eq j (suc n)) [
            | inl last ↦ absurd (false≢true (sym fails ∙ subst (λ x. test x ≡ true) last v.2))
            | inr differs ↦ (w.2 j).1 (v.0, omega (arith, v.1), v.2)
          ],
        ),
      )
    ]
