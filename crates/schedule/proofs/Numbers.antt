-- Decimal numbers that are too long for a capacity.
use Rattle.std.proofs.Common.{◌≡◌, ℕ, ◌+◌, ◌-◌, ◌*◌, ◌≤◌, ◌<◌, Bool, true, not, leb, eqb, List, [], ◌∷◌, length, Ok, Err, refl, sym, arith, ◌∙◌, ◌&&◌, ◌||◌, inl, inr}
use Rattle.std.specs.List.{list_all}
use Rattle.std.proofs.lemmas.Bool.{and_parts, or_cases, eqb-true, eqb-false, leb-true, lt-leb, and_right, not-true, cond-false}
use Rattle.texts.specs.declared.fault.Cause.TheVariants.{Capacity}
use Rattle.std.specs.Char.{is_ascii_digit}
use Rattle.schedule.specs.FirstLines.{is_number, number_from, slots_of}
use Rattle.chart.specs.declared.history.TheConstants.{MAX_CAPACITY}

-- more digits give no smaller number
number_grows : (n : ℕ) (digits : List ℕ) → n ≤ number_from n digits
number_grows n [] = omega arith
number_grows n (b ∷ bs) = let rest = number_grows (10 * n + (b - 48)) bs in omega (arith, rest)

-- a number of two digits or more doesn't begin with 0
pub above_zero : (a l : ℕ) (digit others : Bool) → (digit && others && (eqb l 0 || not (eqb a 48))) ≡ true → digit ≡ leb 48 a && leb a 57 → 1 ≤ l → 49 ≤ a
above_zero a l digit others e is long =
    let parts = and_parts (digit && others) (eqb l 0 || not (eqb a 48)) e in
    let front = and_parts digit others parts.0 in
    let low : 48 ≤ a = leb-true 48 a ((and_parts (leb 48 a) (leb a 57) (sym is ∙ front.0)).0) in
    elim (or_cases (eqb l 0) (not (eqb a 48)) parts.1) [
      | inl none ↦ absurd (let zero : l ≡ 0 = eqb-true l 0 none in omega arith)
      | inr other ↦ let ne : a ≡ 48 → ⊥ = eqb-false a 48 (not-true (eqb a 48) other) in omega arith
    ]

-- a number of three digits or more is above each capacity
pub long_number : (digits : List ℕ) → is_number digits ≡ true → 3 ≤ length digits → slots_of digits ≡ Err Capacity
unfolding is_number slots_of
long_number [] e long = absurd (omega arith)
long_number (a ∷ []) e long = absurd (omega arith)
long_number (a ∷ b ∷ []) e long = absurd (omega arith)
long_number (a ∷ b ∷ c ∷ ds) e long =
    let first : 49 ≤ a = above_zero a (length (b ∷ c ∷ ds)) (is_ascii_digit a) (list_all is_ascii_digit (b ∷ c ∷ ds)) e refl (omega arith) in
    let n : ℕ = number_from 0 (a ∷ b ∷ c ∷ ds) in
    let grows = number_grows (10 * (10 * (10 * 0 + (a - 48)) + (b - 48)) + (c - 48)) ds in
    let above : MAX_CAPACITY < number_from 0 (a ∷ b ∷ c ∷ ds) = omega (arith, grows) in
    cond-false (leb 1 n && leb n MAX_CAPACITY) (Ok n) (Err Capacity) (and_right (leb 1 n) (leb n MAX_CAPACITY) (lt-leb n MAX_CAPACITY above))
