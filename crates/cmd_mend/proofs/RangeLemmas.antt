-- Which events a range has.
use Rattle.std.proofs.Common.{◌≡◌, ℕ, zero, suc, ◌+◌, ◌-◌, ◌<◌, ◌≤◌, ◌==◌, ◌&&◌, ◌||◌, ◌⊎◌, inl, inr, Bool, true, false, refl, sym, ap, ◌∙◌, arith, eq-eqb, eqb-true}
use Rattle.std.specs.Prelude.{nat_le, nat_lt}
use Rattle.std.specs.List.{list_any}
use Rattle.std.proofs.lemmas.Bool.{cases_Bool, cases_lt, lt-ltb, le-ltb, le-leb, lt-leb}
use Rattle.chart.specs.declared.ranges.EventRange.{EventRange}
use Rattle.chart.specs.Ranges.{events_from, events_of}
use Rattle.repair.specs.Marks.{is_at}

differ : (a b : ℕ) → (a ≡ b → ⊥) → (a == b) ≡ false
differ a b other = elim (cases_Bool (a == b)) [ inl same ↦ absurd (other (eqb-true a b same)) | inr off ↦ off ]

-- another instance's
any_other : (p i q j n : ℕ) → (q == p) ≡ false → list_any (is_at p i) (events_from q j n) ≡ false
any_other p i q j zero off = refl
any_other p i q j (suc n) off = ap (λ b. (b && (j == i)) || list_any (is_at p i) (events_from q (j + 1) n)) off ∙ any_other p i q (j + 1) n off

-- events above the first one
any_above : (p i q j n : ℕ) → (q == p) ≡ true → i < j → list_any (is_at p i) (events_from q j n) ≡ false
any_above p i q j zero its less = refl
any_above p i q j (suc n) its less =
    let off : (j == i) ≡ false = differ j i (λ same. absurd (omega arith)) in
    ap (λ b. (b && (j == i)) || list_any (is_at p i) (events_from q (j + 1) n)) its
    ∙ ap (λ b. b || list_any (is_at p i) (events_from q (j + 1) n)) off
    ∙ any_above p i q (j + 1) n its (omega arith)

-- one step on
shift : (i j n : ℕ) → j < i → nat_lt (i - (j + 1)) n ≡ nat_lt (i - j) (suc n)
shift i j n above = elim (cases_lt (i - (j + 1)) n) [
  | inl less ↦ lt-ltb (i - (j + 1)) n less ∙ sym (lt-ltb (i - j) (suc n) (omega arith))
  | inr most ↦ le-ltb (i - (j + 1)) n most ∙ sym (le-ltb (i - j) (suc n) (omega arith))
]

-- so many from the first one on
any_below : (p i q j n : ℕ) → (q == p) ≡ true → j ≤ i → list_any (is_at p i) (events_from q j n) ≡ nat_lt (i - j) n
any_below p i q j zero its low = sym (le-ltb (i - j) 0 (omega arith))
any_below p i q j (suc n) its low = elim (cases_lt j i) [
  | inl less ↦
      ap (λ b. (b && (j == i)) || list_any (is_at p i) (events_from q (j + 1) n)) its
      ∙ ap (λ b. b || list_any (is_at p i) (events_from q (j + 1) n)) (differ j i (λ same. absurd (omega arith)))
      ∙ any_below p i q (j + 1) n its (omega arith)
      ∙ shift i j n less
  | inr most ↦
      ap (λ b. (b && (j == i)) || list_any (is_at p i) (events_from q (j + 1) n)) its
      ∙ ap (λ b. b || list_any (is_at p i) (events_from q (j + 1) n)) (eq-eqb j i (omega arith))
      ∙ sym (lt-ltb (i - j) (suc n) (omega arith))
]

-- an event of a range
pub any_of : (p i : ℕ) (r : EventRange) → list_any (is_at p i) (events_of r) ≡ ((r.first.instance == p) && (nat_le r.first.index i && nat_lt (i - r.first.index) r.count))
any_of p i r = by (cases_Bool (r.first.instance == p))
  where
    by : ((r.first.instance == p) ≡ true) ⊎ ((r.first.instance == p) ≡ false) → list_any (is_at p i) (events_of r) ≡ ((r.first.instance == p) && (nat_le r.first.index i && nat_lt (i - r.first.index) r.count))
    by (inr off) = any_other p i r.first.instance r.first.index r.count off ∙ ap (λ b. b && (nat_le r.first.index i && nat_lt (i - r.first.index) r.count)) (sym off)
    by (inl its) = elim (cases_lt i r.first.index) [
      | inl less ↦ any_above p i r.first.instance r.first.index r.count its less ∙ ap (λ b. b && nat_lt (i - r.first.index) r.count) (sym (lt-leb r.first.index i less)) ∙ ap (λ b. b && (nat_le r.first.index i && nat_lt (i - r.first.index) r.count)) (sym its)
      | inr low ↦ any_below p i r.first.instance r.first.index r.count its low ∙ ap (λ b. b && nat_lt (i - r.first.index) r.count) (sym (le-leb r.first.index i low)) ∙ ap (λ b. b && (nat_le r.first.index i && nat_lt (i - r.first.index) r.count)) (sym its)
    ]
