-- Packets and the parcels that they carry, cut and joined.
use Rattle.std.proofs.Common.{◌≡◌, ℕ, zero, suc, ◌+◌, ◌<◌, ◌⊎◌, inl, inr, List, [], ◌∷◌, ◌++◌, length, take, drop, refl, sym, ap, ◌∙◌, arith}
use mathlib.Core.Option.{some, some-ne-none}
use lib.ListN.{get_elem?}
use Rattle.board_core.specs.Parcels.{Parcel}
use Rattle.board_table.specs.declared.packet.Packet.{Packet}
use Rattle.board_table.specs.Carrying.{AreCarried, last_clock}

pub carried_many : (base : List ℕ) (xs : List Packet) (ys : List Parcel) → AreCarried base xs ys → length xs ≡ length ys
carried_many base [] [] are = refl
carried_many base [] (y ∷ ys) are = absurd are
carried_many base (x ∷ xs) [] are = absurd are
carried_many base (x ∷ xs) (y ∷ ys) are = ap suc (carried_many y.clock xs ys are.1)

pub carried_append : (base : List ℕ) (xs : List Packet) (ys : List Parcel) (more : List Packet) (goods : List Parcel) → AreCarried base xs ys → AreCarried (last_clock base ys) more goods → AreCarried base (xs ++ more) (ys ++ goods)
carried_append base [] [] more goods are those = those
carried_append base [] (y ∷ ys) more goods are those = absurd are
carried_append base (x ∷ xs) [] more goods are those = absurd are
carried_append base (x ∷ xs) (y ∷ ys) more goods are those = (are.0, carried_append y.clock xs ys more goods are.1 those)

pub carried_split : (base : List ℕ) (xs : List Packet) (ys goods : List Parcel) → AreCarried base xs (ys ++ goods) → AreCarried base (take (length ys) xs) ys × AreCarried (last_clock base ys) (drop (length ys) xs) goods
carried_split base xs [] goods are = (tt, are)
carried_split base [] (y ∷ ys) goods are = absurd are
carried_split base (x ∷ xs) (y ∷ ys) goods are = let rest = carried_split y.clock xs ys goods are.1 in ((are.0, rest.0), rest.1)

pub last_clock-append : (base : List ℕ) (ys zs : List Parcel) → last_clock base (ys ++ zs) ≡ last_clock (last_clock base ys) zs
last_clock-append base [] zs = refl
last_clock-append base (y ∷ ys) zs = last_clock-append y.clock ys zs

module _ {A : Type 0} where
  -- an element of two joined lists is in one of them
  pub at_append : (xs ys : List A) (c : ℕ) (x : A) → get_elem? (xs ++ ys) c ≡ some x → ((c < length xs) × (get_elem? xs c ≡ some x)) ⊎ ((i : ℕ) × (c ≡ length xs + i) × (get_elem? ys i ≡ some x))
  at_append [] ys c x at = inr (c, omega arith, at)
  at_append (y ∷ xs) ys zero x at = inl (omega arith, at)
  at_append (y ∷ xs) ys (suc c) x at = elim (at_append xs ys c x at) [ inl h ↦ inl (omega (arith, h.0), h.1) | inr h ↦ inr (h.0, omega (arith, h.1), h.2) ]

  pub at_drop : (r : ℕ) (xs : List A) (i : ℕ) → get_elem? (drop r xs) i ≡ get_elem? xs (r + i)
  at_drop zero xs i = ap (λ z. get_elem? xs z) (let h : i ≡ zero + i = omega arith in h)
  at_drop (suc r) [] i = refl
  at_drop (suc r) (x ∷ xs) i = at_drop r xs i ∙ ap (λ z. get_elem? (x ∷ xs) z) (let h : suc (r + i) ≡ suc r + i = omega arith in h)

  pub at_within : (xs : List A) (c : ℕ) (x : A) → get_elem? xs c ≡ some x → c < length xs
  at_within [] c x at = absurd (some-ne-none x (sym at))
  at_within (y ∷ xs) zero x at = omega arith
  at_within (y ∷ xs) (suc c) x at = let h = at_within xs c x at in omega arith
