-- The scan order: which instances it has, and how many.
use Rattle.std.proofs.Common.{◌≡◌, ◌≢◌, ℕ, zero, suc, ◌+◌, ◌-◌, ◌<◌, ◌≤◌, ◌==◌, ◌⊎◌, inl, inr, not, Bool, true, false, cond, ◌∷◌, ◌++◌, length, get_or, refl, sym, ap, ◌∙◌, subst, arith, length-append}
use Rattle.std.specs.Prelude.{filter, All, Contains}
use Rattle.std.specs.List.{range_with_len}
use Rattle.std.proofs.lemmas.Bool.{eqb-true, eqb-false, ne_eqb, not-true, cases_lt}
use Rattle.std.proofs.lemmas.List.Elements.{All-append, All-filter, All-weaker, filter_passes, filter-append, Contains-append_left, Contains-append_right}
use Rattle.std.proofs.lemmas.List.FromFn.{length-range_with_len, get_or-range_with_len}
use Rattle.chart.specs.Scans.{scan}

-- the numbers from a + 1 to b begin with a + 1
pub range-next : (a b : ℕ) → a < b → range_with_len (a + 1) (b - a) ≡ (a + 1) ∷ range_with_len (a + 1 + 1) (b - (a + 1))
range-next a b h =
    let e : b - a ≡ suc (b - (a + 1)) = omega arith in
    ap (range_with_len (a + 1)) e

-- one of n instances, and not p
abbrev pub IsOther : ℕ → ℕ → ℕ → Type 0
IsOther n p q = (1 ≤ q) × (q ≤ n) × (q ≢ p)

-- a range has the numbers of its bounds
range-within : (s l : ℕ) → All (λ q. (s ≤ q) × (q < s + l)) (range_with_len s l)
range-within s l k d h =
    let short : k < l = omega (arith, length-range_with_len s l) in
    rw (get_or-range_with_len s l k d short) (omega arith, omega arith)

-- the scan has only other instances
pub scan-others : (n p l : ℕ) → l ≤ n → All (IsOther n p) (scan n p l)
scan-others n p l le k d h =
    let bounds = inside k d h in
    let other : (get_or (scan n p l) k d == p) ≡ false = not-true (get_or (scan n p l) k d == p) (filter_passes (λ q. not (q == p)) (range_with_len (l + 1) (n - l) ++ range_with_len 1 l) k d h) in
    (bounds.0, bounds.1, eqb-false (get_or (scan n p l) k d) p other)
  where
    inside : All (λ q. (1 ≤ q) × (q ≤ n)) (scan n p l)
    inside = All-filter (λ q. not (q == p)) (λ q. (1 ≤ q) × (q ≤ n)) (range_with_len (l + 1) (n - l) ++ range_with_len 1 l)
        (All-append (λ q. (1 ≤ q) × (q ≤ n)) (range_with_len (l + 1) (n - l)) (range_with_len 1 l)
        (All-weaker (λ q. (l + 1 ≤ q) × (q < l + 1 + (n - l))) (λ q. (1 ≤ q) × (q ≤ n)) (λ q b. (omega (arith, b.0), omega (arith, b.1))) (range_with_len (l + 1) (n - l)) (range-within (l + 1) (n - l)))
        (All-weaker (λ q. (1 ≤ q) × (q < 1 + l)) (λ q. (1 ≤ q) × (q ≤ n)) (λ q b. (b.0, omega (arith, b.1))) (range_with_len 1 l) (range-within 1 l)))

-- a range without p has all its numbers, if p isn't among them
others-all : (p s l : ℕ) → (p < s) ⊎ (s + l ≤ p) → length (filter (λ q. not (q == p)) (range_with_len s l)) ≡ l
others-all p s zero out = refl
others-all p s (suc l) out =
    let other : (s == p) ≡ false = ne_eqb s p (λ same. elim out [ inl below ↦ absurd (omega arith) | inr past ↦ absurd (omega arith) ]) in
    let rest : (p < s + 1) ⊎ (s + 1 + l ≤ p) = elim out [ inl below ↦ inl (omega arith) | inr past ↦ inr (omega arith) ] in
    rw other (ap suc (others-all p (s + 1) l rest))

-- otherwise it has all but one
others-but-one : (p s l : ℕ) → s ≤ p → p < s + l → length (filter (λ q. not (q == p)) (range_with_len s l)) + 1 ≡ l
others-but-one p s zero low high = absurd (omega arith)
others-but-one p s (suc l) low high = go (s == p) refl (λ less top. others-but-one p (s + 1) l less top)
  where
    go : (mine : Bool) → (s == p) ≡ mine → (s + 1 ≤ p → p < s + 1 + l → length (filter (λ q. not (q == p)) (range_with_len (s + 1) l)) + 1 ≡ l) → length (cond (not mine) (s ∷ filter (λ q. not (q == p)) (range_with_len (s + 1) l)) (filter (λ q. not (q == p)) (range_with_len (s + 1) l))) + 1 ≡ suc l
    go true e rest = let same = eqb-true s p e in omega (arith, others-all p (s + 1) l (inl (omega arith)))
    go false e rest = let other = eqb-false s p e in omega (arith, rest (omega arith) (omega arith))

-- the scan has each other instance once
pub length-scan : (n p l : ℕ) → 1 ≤ p → p ≤ n → l ≤ n → length (scan n p l) + 1 ≡ n
length-scan n p l least most le =
    let both = ap length (filter-append (λ q. not (q == p)) (range_with_len (l + 1) (n - l)) (range_with_len 1 l)) ∙ length-append (filter (λ q. not (q == p)) (range_with_len (l + 1) (n - l))) (filter (λ q. not (q == p)) (range_with_len 1 l)) in
    elim (cases_lt l p) [
      | inl after ↦ omega (arith, both, others-but-one p (l + 1) (n - l) (omega arith) (omega arith), others-all p 1 l (inr (omega arith)))
      | inr before ↦ omega (arith, both, others-all p (l + 1) (n - l) (inl (omega arith)), others-but-one p 1 l least (omega arith))
    ]

-- it has no others
pub scan-only : (n p l q : ℕ) → l ≤ n → Contains (scan n p l) q → IsOther n p q
scan-only n p l q le (k, within, is) = subst (IsOther n p) is (scan-others n p l le k q within)

-- a range without p has each of its numbers but p
others-have : (p s l q : ℕ) → s ≤ q → q < s + l → q ≢ p → Contains (filter (λ x. not (x == p)) (range_with_len s l)) q
others-have p s zero q low high other = absurd (omega arith)
others-have p s (suc l) q low high other = go (s == p) refl (λ less. others-have p (s + 1) l q less (omega arith) other)
  where
    go : (mine : Bool) → (s == p) ≡ mine → (s + 1 ≤ q → Contains (filter (λ x. not (x == p)) (range_with_len (s + 1) l)) q) → Contains (cond (not mine) (s ∷ filter (λ x. not (x == p)) (range_with_len (s + 1) l)) (filter (λ x. not (x == p)) (range_with_len (s + 1) l))) q
    go true e rest = let same = eqb-true s p e in rest (omega arith)
    go false e rest = elim (cases_lt s q) [
      | inl less ↦ let w = rest (omega arith) in (suc w.0, omega (arith, w.1), w.2)
      | inr past ↦ (0, omega arith, omega arith)
    ]

-- the scan has each other instance
pub scan-has : (n p l q : ℕ) → IsOther n p q → Contains (scan n p l) q
scan-has n p l q other =
    subst (λ xs. Contains xs q) (sym (filter-append (λ x. not (x == p)) (range_with_len (l + 1) (n - l)) (range_with_len 1 l))) (elim (cases_lt l q) [
      | inl after ↦ Contains-append_left (filter (λ x. not (x == p)) (range_with_len (l + 1) (n - l))) (filter (λ x. not (x == p)) (range_with_len 1 l)) q (others-have p (l + 1) (n - l) q (omega arith) (omega arith) other.2)
      | inr before ↦ Contains-append_right (filter (λ x. not (x == p)) (range_with_len (l + 1) (n - l))) (filter (λ x. not (x == p)) (range_with_len 1 l)) q (others-have p 1 l q other.0 (omega arith) other.2)
    ])
