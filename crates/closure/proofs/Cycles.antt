-- If each of finitely many numbers comes after another of them, one comes after itself.
use Rattle.std.proofs.Common.{ℕ, zero, suc, ◌<◌, ◌⊎◌, inl, inr, sym, ◌∙◌, subst, arith}
use Rattle.std.proofs.lemmas.Bool.{cases_eq}

-- a transitive order has a cycle: some number comes before itself
abbrev pub HasCycle : (ℕ → ℕ → Type 0) → Type 0
HasCycle R = (x : ℕ) × R x x

-- the numbers of U below n
abbrev Below : (ℕ → Type 0) → ℕ → ℕ → Type 0
Below U n x = U x × (x < n)

-- a number of U comes before x, or there is a cycle
abbrev IsAfter : (ℕ → Type 0) → (ℕ → ℕ → Type 0) → ℕ → Type 0
IsAfter U R x = ((y : ℕ) × U y × R y x) ⊎ HasCycle R

module _ (R : ℕ → ℕ → Type 0) (trans : (a b d : ℕ) → R a b → R b d → R a d) where
  -- the same without the last number, by a way around it
  round_last : (U : ℕ → Type 0) (n : ℕ) → ((x : ℕ) → U x → x < suc n) → ((x : ℕ) → U x → IsAfter U R x) → (x : ℕ) → U x → IsAfter (Below U n) R x
  round_last U n bound after x u =
      elim (after x u) [
        | inr cycle ↦ inr cycle
        | inl w ↦
            elim (cases_eq w.0 n) [
              | inr differs ↦ let b = bound w.0 w.1 in inl (w.0, (w.1, omega arith), w.2)
              | inl last ↦
                  elim (after w.0 w.1) [
                    | inr cycle ↦ inr cycle
                    | inl v ↦
                        elim (cases_eq v.0 n) [
                          | inl again ↦ inr (w.0, subst (λ y. R y w.0) (again ∙ sym last) v.2)
                          | inr differs ↦ let b = bound v.0 v.1 in inl (v.0, (v.1, omega arith), trans v.0 w.0 x v.2 w.2)
                        ]
                  ]
            ]
      ]

  -- if each number of U comes after one of U, there is a cycle
  pub cycle : (n : ℕ) (U : ℕ → Type 0) → ((x : ℕ) → U x → x < n) → ((x : ℕ) → U x → IsAfter U R x) → (x : ℕ) → U x → HasCycle R
  cycle zero U bound after x u = let b = bound x u in absurd (omega arith)
  cycle (suc n) U bound after x u =
      elim (round_last U n bound after x u) [
        | inr found ↦ found
        | inl w ↦ cycle n (Below U n) (λ y h. h.1) (λ y h. round_last U n bound after y h.0) w.0 w.1
      ]
