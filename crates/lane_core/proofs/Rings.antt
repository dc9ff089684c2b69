-- Slots of a ring: counts that differ by less than k have different slots of k. Contents of slots, with one set.
use Rattle.std.proofs.Common.{◌≡◌, ℕ, suc, ◌+◌, ◌*◌, ◌/◌, ◌%◌, ◌<◌, ◌≤◌, ◌==◌, ◌⊎◌, Bool, true, false, cond, inl, inr, refl, sym, eq-eqb, subst, arith}
use Rattle.std.proofs.Math.Nat.{div-add-mod, mul-le-mul_left, mul-suc}
use Rattle.std.proofs.lemmas.Bool.{cases_lt, eqb-true}
use Rattle.lane_core.specs.Traffic.{with_at}

-- a greater count, by less than k, has another slot
pub other_slot : (k a b : ℕ) → a < b → b < a + k → a % k ≡ b % k → ⊥
other_slot k a b less near same = go (cases_lt (a / k) (b / k))
  where
    go : (a / k < b / k) ⊎ (b / k ≤ a / k) → ⊥
    go (inl below) =
        let more : k * suc (a / k) ≤ k * (b / k) = mul-le-mul_left k (omega (arith, below)) in
        omega (arith, more, mul-suc k (a / k), div-add-mod a k, div-add-mod b k)
    go (inr above) =
        let more : k * (b / k) ≤ k * (a / k) = mul-le-mul_left k above in
        omega (arith, more, div-add-mod a k, div-add-mod b k)

-- the slot that was set
pub set_there : {A : Type 0} → (at : ℕ → A) (slot i : ℕ) (a : A) → i ≡ slot → with_at at slot a i ≡ a
set_there {A} at slot i a same = subst (λ (b : Bool). cond b a (at i) ≡ a) (sym (eq-eqb i slot same)) refl

-- any other slot
pub set_other : {A : Type 0} → (at : ℕ → A) (slot i : ℕ) (a : A) → (i ≡ slot → ⊥) → with_at at slot a i ≡ at i
set_other {A} at slot i a other = go (i == slot) refl
  where
    go : (its : Bool) → (i == slot) ≡ its → cond its a (at i) ≡ at i
    go true e = absurd (other (eqb-true i slot e))
    go false e = refl
