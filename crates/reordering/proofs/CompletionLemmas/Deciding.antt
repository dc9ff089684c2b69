-- Decided facts of numbers: of each below a bound, of one, of the last one.
use Rattle.std.proofs.Common.{ℕ, zero, suc, ◌<◌, ◌≤◌, ◌⊎◌, inl, inr, sym, subst, arith}
use Rattle.std.proofs.lemmas.Bool.{cases_eq}

-- the fact holds, or it doesn't
abbrev pub Decided : Type 0 → Type 0
Decided P = P ⊎ (P → ⊥)

-- the fact holds of each number, or there is one of which it doesn't
pub each_or_one : (P : ℕ → Type 0) → ((j : ℕ) → Decided (P j)) → (n : ℕ) → ((j : ℕ) → j < n → P j) ⊎ ((j : ℕ) × (P j → ⊥))
each_or_one P decided zero = inl (λ j less. absurd (omega arith))
each_or_one P decided (suc n) = elim (each_or_one P decided n) [
  | inr w ↦ inr w
  | inl below ↦
      elim (decided n) [
        | inr fails ↦ inr (n, fails)
        | inl here ↦ inl (λ j less. elim (cases_eq j n) [ inl e ↦ subst P (sym e) here | inr differs ↦ below j (omega arith) ])
      ]
]

-- of the numbers with P each has Q, or one has R
pub sorted : (P Q R : ℕ → Type 0) → ((j : ℕ) → Decided (P j)) → ((j : ℕ) → P j → Q j ⊎ R j) → (n : ℕ) → ((j : ℕ) → j < n → P j → Q j) ⊎ ((j : ℕ) × P j × R j)
sorted P Q R decided either zero = inl (λ j less p. absurd (omega arith))
sorted P Q R decided either (suc n) = elim (sorted P Q R decided either n) [
  | inr w ↦ inr w
  | inl below ↦
      elim (decided n) [
        | inr fails ↦ inl (λ j less p. elim (cases_eq j n) [ inl e ↦ absurd (fails (subst P e p)) | inr differs ↦ below j (omega arith) p ])
        | inl here ↦
            elim (either n here) [
              | inr r ↦ inr (n, here, r)
              | inl q ↦ inl (λ j less p. elim (cases_eq j n) [ inl e ↦ subst Q (sym e) q | inr differs ↦ below j (omega arith) p ])
            ]
      ]
]

-- there is a last number below the bound of which the fact holds, or there is none
pub last_or_none : (P : ℕ → Type 0) → ((j : ℕ) → Decided (P j)) → (n : ℕ) → ((j : ℕ) × (j < n) × P j × ((l : ℕ) → l < n → P l → l ≤ j)) ⊎ ((j : ℕ) → j < n → P j → ⊥)
last_or_none P decided zero = inr (λ j less p. omega arith)
last_or_none P decided (suc n) = elim (decided n) [
  | inl here ↦ inl (n, omega arith, here, λ l less p. omega arith)
  | inr fails ↦
      elim (last_or_none P decided n) [
        | inl w ↦ inl (w.0, omega (arith, w.1), w.2, λ l less p. elim (cases_eq l n) [ inl e ↦ absurd (fails (subst P e p)) | inr differs ↦ w.3 l (omega arith) p ])
        | inr none ↦ inr (λ j less p. elim (cases_eq j n) [ inl e ↦ fails (subst P e p) | inr differs ↦ none j (omega arith) p ])
      ]
]
