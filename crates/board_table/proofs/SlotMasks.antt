-- Slots in turn, if a lane's capacity is a power of two.
use Rattle.std.proofs.Common.{◌≡◌, ℕ, zero, suc, ◌+◌, ◌-◌, ◌*◌, ◌/◌, ◌%◌, ◌^◌, ◌≤◌, bit_and, min, refl, sym, ap, ◌∙◌, subst, arith}
use Rattle.std.proofs.lemmas.Grind.{pow_more}
use lib.Bits.{and_step, and_self, and_mask}

module _ (c : ℕ) (some : 1 ≤ c) (none : bit_and c (c - 1) ≡ 0) where
  halves : bit_and (c / 2) ((c - 1) / 2) * 2 + min (c % 2) ((c - 1) % 2) ≡ 0
  halves = sym (and_step c (c - 1)) ∙ none

  odd : c % 2 ≡ 1 → c ≡ 1
  odd rest =
      let same : (c - 1) / 2 ≡ c / 2 = omega (arith, rest, some) in
      let half : bit_and (c / 2) ((c - 1) / 2) ≡ c / 2 = ap (λ (h : ℕ). bit_and (c / 2) h) same ∙ and_self (c / 2) in
      omega (arith, halves, half, rest)

  even : c % 2 ≡ 0 → (1 ≤ c / 2) × (bit_and (c / 2) (c / 2 - 1) ≡ 0)
  even rest =
      let before : (c - 1) / 2 ≡ c / 2 - 1 = omega (arith, rest, some) in
      let half : bit_and (c / 2) ((c - 1) / 2) ≡ bit_and (c / 2) (c / 2 - 1) = ap (λ (h : ℕ). bit_and (c / 2) h) before in
      (omega (arith, rest, some), omega (arith, halves, half))

-- a number is a power of two if its half is
doubled : (c rest : ℕ) → c % 2 ≡ rest → (some : 1 ≤ c) → (none : bit_and c (c - 1) ≡ 0) → (1 ≤ c / 2 → bit_and (c / 2) (c / 2 - 1) ≡ 0 → (k : ℕ) × (c / 2 ≡ 2 ^ k)) → (k : ℕ) × (c ≡ 2 ^ k)
doubled c zero e some none half =
    let its = even c some none e in
    let power = half its.0 its.1 in
    (power.0 + 1, let more = pow_more 2 power.0 in omega (arith, power.1, e, more))
doubled c (suc zero) e some none half = (0, odd c some none e)
doubled c (suc (suc more)) e some none half = absurd (omega (arith, e))

-- a number that has no bit in common with the one before it is a power of two
is_power : (most c : ℕ) → c ≤ most → 1 ≤ c → bit_and c (c - 1) ≡ 0 → (k : ℕ) × (c ≡ 2 ^ k)
is_power zero c within some none = absurd (omega (arith, within, some))
is_power (suc most) c within some none = doubled c (c % 2) refl some none (λ some_half none_half. is_power most (c / 2) (omega (arith, within, some)) some_half none_half)

-- the number before a power of two is the mask of its remainders
pub masked : (c x : ℕ) → 1 ≤ c → bit_and c (c - 1) ≡ 0 → bit_and x (c - 1) ≡ x % c
masked c x some none =
    let power = is_power c c (omega arith) some none in
    subst (λ (n : ℕ). bit_and x (n - 1) ≡ x % n) (sym power.1) (and_mask x power.0)
