-- Counts of the numbers from 1 to n of which a fact holds.
use Rattle.std.proofs.Common.{◌≡◌, ℕ, zero, suc, ◌<◌, ◌≤◌, ◌↔◌, inl, inr, refl, sym, ap, subst, arith}
use Rattle.std.proofs.lemmas.Bool.{cases_lt, cases_eq}
use Rattle.chart.specs.Knowing.{IsCount}
use Rattle.chart.specs.Knowing.IsCount.{none, counted, passed}

-- among the numbers from 1 to n the fact holds exactly of those up to k
abbrev pub IsFront : (ℕ → Type 0) → ℕ → ℕ → Type 0
IsFront P n k = (j : ℕ) → 1 ≤ j → j ≤ n → P j ↔ (j ≤ k)

-- the count is at most n
pub count-le : {P : ℕ → Type 0} {n k : ℕ} → IsCount P n k → k ≤ n
count-le none = omega arith
count-le (counted h p) = let w = count-le p in omega arith
count-le (passed h p) = let w = count-le p in omega arith

-- there is only one count
pub same_count : {P : ℕ → Type 0} {n k l : ℕ} → IsCount P n k → IsCount P n l → k ≡ l
same_count none none = refl
same_count (counted h p) (counted g q) = ap suc (same_count p q)
same_count (counted h p) (passed g q) = absurd (g h)
same_count (passed h p) (counted g q) = absurd (h g)
same_count (passed h p) (passed g q) = same_count p q

-- if a fact holds of each number below one of which it holds, it holds exactly of the numbers up to the count
pub front_from_count : {P : ℕ → Type 0} {n k : ℕ} → ((i j : ℕ) → 1 ≤ i → i < j → P j → P i) → IsCount P n k → IsFront P n k
front_from_count down none j low high = absurd (omega arith)
front_from_count {P = P} down (counted {n = n} {k = k} h p) j low high =
    let before = front_from_count down p in
    let full : n ≤ k = elim (cases_lt 0 n) [ inl w ↦ (before n w (omega arith)).0 (down n (suc n) w (omega arith) h) | inr w ↦ omega arith ] in
    let bound = count-le p in
    (λ here. omega arith, λ le. elim (cases_eq j (suc n)) [ inl e ↦ subst P (sym e) h | inr differs ↦ down j (suc n) low (omega arith) h ])
front_from_count {P = P} down (passed {n = n} {k = k} h p) j low high =
    let before = front_from_count down p in
    let bound = count-le p in
    (λ here. elim (cases_eq j (suc n)) [ inl e ↦ absurd (h (subst P e here)) | inr differs ↦ (before j low (omega arith)).0 here ], λ le. (before j low (omega arith)).1 le)

-- if a fact holds exactly of the numbers up to k, the count is k
pub count_from_front : (P : ℕ → Type 0) (n k : ℕ) → k ≤ n → IsFront P n k → IsCount P n k
count_from_front P zero k le front = let e : 0 ≡ k = omega arith in subst (λ x. IsCount P 0 x) e none
count_from_front P (suc n) k le front =
    elim (cases_eq k (suc n)) [
      | inl e ↦
          subst (λ x. IsCount P (suc n) x) (sym e)
          (counted ((front (suc n) (omega arith) (omega arith)).1 (omega arith))
          (count_from_front P n n (omega arith) (upto_itself n (λ j low high. (front j low (omega arith)).1 (omega arith)))))
      | inr differs ↦
          let past : P (suc n) → ⊥ = λ here. absurd (differs (omega (arith, (front (suc n) (omega arith) (omega arith)).0 here))) in
          passed past (count_from_front P n k (omega arith) (λ j low high. front j low (omega arith)))
    ]
  where
    upto_itself : (n : ℕ) → ((j : ℕ) → 1 ≤ j → j ≤ n → P j) → IsFront P n n
    upto_itself n all j low high = (λ here. high, λ same. all j low high)

-- two facts that agree have the same count
pub count_agrees : {P : ℕ → Type 0} {n k : ℕ} → (Q : ℕ → Type 0) → IsCount P n k → ((j : ℕ) → 1 ≤ j → j ≤ n → P j ↔ Q j) → IsCount Q n k
count_agrees Q none agree = none
count_agrees Q (counted {n = n} h p) agree = counted ((agree (suc n) (omega arith) (omega arith)).0 h) (count_agrees Q p (λ j low high. agree j low (omega arith)))
count_agrees Q (passed {n = n} h p) agree = passed (λ here. h ((agree (suc n) (omega arith) (omega arith)).1 here)) (count_agrees Q p (λ j low high. agree j low (omega arith)))

-- if the fact holds of no number above n, the count up to a greater number is the same
pub count_further : (P : ℕ → Type 0) (n k m : ℕ) → n ≤ m → IsCount P n k → ((j : ℕ) → n < j → P j → ⊥) → IsCount P m k
count_further P n k zero le count none_past = let e : n ≡ 0 = omega arith in subst (λ x. IsCount P x k) e count
count_further P n k (suc m) le count none_past =
    elim (cases_eq n (suc m)) [
      | inl e ↦ subst (λ x. IsCount P x k) e count
      | inr differs ↦ passed (none_past (suc m) (omega arith)) (count_further P n k m (omega arith) count none_past)
    ]
