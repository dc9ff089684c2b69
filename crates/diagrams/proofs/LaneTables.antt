-- Tables with a number for each lane, if one number changes.
use Rattle.std.proofs.Common.{◌≡◌, ℕ, ◌*◌, ◌<◌, inl, inr, ◌==◌, ◌&&◌, Bool, true, false, cond, List, length, set, replicate, refl, sym, ap, ◌∙◌, subst, arith, eqb-true, eq-eqb}
use Rattle.std.specs.Prelude.{slice_index}
use Rattle.std.proofs.lemmas.Bool.{cases_eq, and_parts}
use Rattle.std.proofs.lemmas.List.{get_or-set_same, get_or-set_other, get_or-replicate}
use Rattle.chart.specs.declared.instance.TheConstants.{MAX_INSTANCES}
use Rattle.diagrams.specs.Lanes.{slot_of, IsInstance, Numbers, AreNumbers, changed}

-- a lane's place is within the table
pub slot-within : (q p : ℕ) → IsInstance q → IsInstance p → slot_of q p < MAX_INSTANCES * MAX_INSTANCES
slot-within q p is_q is_p = omega (arith, is_q.0, is_q.1, is_p.0, is_p.1)

-- two lanes with the same place are the same
slot-same : (q p a b : ℕ) → IsInstance q → IsInstance p → IsInstance a → IsInstance b → slot_of q p ≡ slot_of a b → (q ≡ a) × (p ≡ b)
slot-same q p a b is_q is_p is_a is_b same =
    (omega (arith, is_q.0, is_q.1, is_p.0, is_p.1, is_a.0, is_a.1, is_b.0, is_b.1, same), omega (arith, is_q.0, is_q.1, is_p.0, is_p.1, is_a.0, is_a.1, is_b.0, is_b.1, same))

-- equal numbers have the same table
pub numbers-same : (table : List ℕ) (f g : Numbers) → ((q p : ℕ) → f q p ≡ g q p) → AreNumbers table f → AreNumbers table g
numbers-same table f g same are q p is_q is_p = are q p is_q is_p ∙ same q p

-- a table of zeros
pub numbers-zeros : AreNumbers (replicate (MAX_INSTANCES * MAX_INSTANCES) 0) (λ q p. 0)
numbers-zeros q p is_q is_p = get_or-replicate (MAX_INSTANCES * MAX_INSTANCES) (slot_of q p) 0 0 (slot-within q p is_q is_p)

-- one changed number
pub numbers-changed : (table : List ℕ) (f : Numbers) (a b n : ℕ) → length table ≡ MAX_INSTANCES * MAX_INSTANCES → IsInstance a → IsInstance b → AreNumbers table f → AreNumbers (set table (slot_of a b) n) (changed f a b n)
numbers-changed table f a b n whole is_a is_b are q p is_q is_p = elim (cases_eq (slot_of a b) (slot_of q p)) [
  | inl same ↦
      let ends = slot-same a b q p is_a is_b is_q is_p same in
      subst (λ x. slice_index (set table (slot_of a b) n) (slot_of x p) ≡ changed f a b n x p) ends.0
      (subst (λ y. slice_index (set table (slot_of a b) n) (slot_of a y) ≡ changed f a b n a y) ends.1 at_lane)
  | inr differs ↦ get_or-set_other table (slot_of a b) (slot_of q p) n 0 (λ e. differs (sym e)) ∙ are q p is_q is_p ∙ other (a == q && b == p) refl differs
]
  where
    at_lane : slice_index (set table (slot_of a b) n) (slot_of a b) ≡ changed f a b n a b
    at_lane = rw (eq-eqb a a refl, eq-eqb b b refl) (get_or-set_same table (slot_of a b) n 0 (omega (arith, whole, slot-within a b is_a is_b)))

    other : (its : Bool) → (a == q && b == p) ≡ its → (slot_of a b ≡ slot_of q p → ⊥) → f q p ≡ cond its n (f q p)
    other true lane differs =
        let ends = and_parts (a == q) (b == p) lane in
        absurd (differs (ap (λ x. slot_of x b) (eqb-true a q ends.0) ∙ ap (λ y. slot_of q y) (eqb-true b p ends.1)))
    other false lane differs = refl
