-- Tables that are filled number by number.
use Rattle.std.proofs.Common.{◌≡◌, ℕ, ◌+◌, ◌<◌, ◌≤◌, inl, inr, List, Option, None, Some, length, get_or, replicate, refl, sym, ap, ◌∙◌, subst, arith}
use Rattle.std.proofs.lemmas.Bool.{cases_eq, cases_lt}
use Rattle.std.proofs.lemmas.List.{get_or-replicate, get_or_past, length-replicate}
use Rattle.race_verdicts.specs.Luck.Tables.{IsFirst, IsLast, IsNoted}

pub some_same : {A : Type 0} {a b : A} → Some a ≡ Some b → a ≡ b
some_same e = cc e

-- the first number, with one more number
module _ (P : ℕ → Type 0) (n : ℕ) where
  pub first_pass : (entry : Option ℕ) → (P n → ⊥) → IsFirst P n entry → IsFirst P (n + 1) entry
  first_pass None none are =
      λ k less p. elim (cases_eq k n) [
        | inl same ↦ none (subst P same p)
        | inr other ↦ are k (omega arith) p
      ]
  first_pass (Some m) none are = (omega (arith, are.0), are.1, are.2)

  pub first_kept : (m : ℕ) → IsFirst P n (Some m) → IsFirst P (n + 1) (Some m)
  first_kept m are = (omega (arith, are.0), are.1, are.2)

  pub first_found : P n → IsFirst P n None → IsFirst P (n + 1) (Some n)
  first_found p are = (omega arith, p, are)

-- one more number is stored, for which the fact holds only of this key
pub first_noted : (P : ℕ → ℕ → Type 0) (count n key : ℕ) (old new : List (Option ℕ)) → length old ≡ count → IsNoted old new key n → ((k : ℕ) → P k n → k ≡ key) → P key n
    → ((k : ℕ) → k < count → IsFirst (P k) n (get_or old k None)) → (k : ℕ) → k < count → IsFirst (P k) (n + 1) (get_or new k None)
first_noted P count n key old new whole noted alone here are k within =
    elim (cases_eq k key) [
      | inr other ↦ subst (IsFirst (P k) (n + 1)) (sym (noted.others k other)) (first_pass (P k) n (get_or old k None) (λ p. other (alone k p)) (are k within))
      | inl same ↦
          subst (λ j. IsFirst (P j) (n + 1) (get_or new j None)) (sym same)
          (go (get_or old key None) refl (subst (λ j. IsFirst (P j) n (get_or old j None)) same (are k within)) (subst (λ j. j < count) same within))
    ]
  where
    go : (entry : Option ℕ) → get_or old key None ≡ entry → IsFirst (P key) n (get_or old key None) → key < count → IsFirst (P key) (n + 1) (get_or new key None)
    go None e its inside =
        subst (IsFirst (P key) (n + 1)) (sym (noted.noted (omega (arith, whole)) e)) (first_found (P key) n here (subst (IsFirst (P key) n) e its))
    go (Some m) e its inside = subst (IsFirst (P key) (n + 1)) (sym (noted.kept m e)) (first_kept (P key) n m (subst (IsFirst (P key) n) e its))

abbrev no_entry : Option ℕ
no_entry = None

-- a table without entries
pub none_at : (count k : ℕ) → get_or (replicate count no_entry) k no_entry ≡ None
none_at count k =
    elim (cases_lt k count) [
      | inl less ↦ get_or-replicate {A = Option ℕ} count k no_entry no_entry less
      | inr past ↦ get_or_past {X = Option ℕ} (replicate count no_entry) k no_entry (let whole = length-replicate {A = Option ℕ} count no_entry in omega arith)
    ]

-- its entries state that the fact holds of no number so far
pub first_none : (P : ℕ → ℕ → Type 0) (count : ℕ) (table : List (Option ℕ)) → table ≡ replicate count None → (k : ℕ) → k < count → IsFirst (P k) 0 (get_or table k None)
first_none P count table is k within = subst (IsFirst (P k) 0) (sym (ap (λ t. get_or t k None) is ∙ none_at count k)) (λ j less p. absurd (omega arith))

pub none_whole : (count : ℕ) (table : List (Option ℕ)) → table ≡ replicate count None → length table ≡ count
none_whole count table is = ap length is ∙ length-replicate {A = Option ℕ} count no_entry

-- all numbers for which the fact may hold were tried
pub first_all : (P : ℕ → Type 0) (n i : ℕ) → n ≤ i → ((j : ℕ) → P j → j < n) → (entry : Option ℕ) → IsFirst P i entry → IsFirst P n entry
first_all P n i low all None are = λ j less p. are j (omega arith) p
first_all P n i low all (Some m) are = (all m are.1, are.1, are.2)

-- the last number, with one more number
pub last_pass : (P : ℕ → Type 0) (n : ℕ) (entry : Option ℕ) → (P n → ⊥) → IsLast P n entry → IsLast P (n + 1) entry
last_pass P n None none are =
    λ k less p. elim (cases_eq k n) [
      | inl same ↦ none (subst P same p)
      | inr other ↦ are k (omega arith) p
    ]
last_pass P n (Some m) none are = (
  omega (arith, are.0),
  are.1,
  λ k low less p. elim (cases_eq k n) [
    | inl same ↦ none (subst P same p)
    | inr other ↦ are.2 k low (omega arith) p
  ],
)

pub last_found : (P : ℕ → Type 0) (n : ℕ) → P n → IsLast P (n + 1) (Some n)
last_found P n p = (omega arith, p, λ k low less other. absurd (omega arith))
