-- Tables with a number for each lane, when one is raised.
use Rattle.std.proofs.Common.{◌≡◌, ℕ, ◌*◌, ◌<◌, inl, inr, ◌==◌, max, Bool, true, false, cond, List, length, set, replicate, refl, sym, ap, ◌∙◌, subst, arith, eqb-true}
use Rattle.std.specs.Prelude.{slice_index}
use Rattle.std.proofs.lemmas.Bool.{cases_eq, and_parts}
use Rattle.std.proofs.lemmas.List.{get_or-set_same, get_or-set_other, get_or-replicate}
use Rattle.chart.specs.declared.instance.TheConstants.{MAX_INSTANCES}
use Rattle.chart.specs.Histories.{is_lane}
use Rattle.chart.proofs.Histories.{is_lane-same}
use Rattle.reordering.specs.OtherRuns.Walks.{Turns, raise}
use Rattle.reordering.specs.Witness.Tables.{slot_of, IsInstance, AreCounts}

-- a lane's place is within the table
pub slot-within : (q p : ℕ) → IsInstance q → IsInstance p → slot_of q p < MAX_INSTANCES * MAX_INSTANCES
slot-within q p is_q is_p = omega (arith, is_q.0, is_q.1, is_p.0, is_p.1)

-- two lanes with the same place are the same
slot-same : (q p a b : ℕ) → IsInstance q → IsInstance p → IsInstance a → IsInstance b → slot_of q p ≡ slot_of a b → (q ≡ a) × (p ≡ b)
slot-same q p a b is_q is_p is_a is_b same =
    (omega (arith, is_q.0, is_q.1, is_p.0, is_p.1, is_a.0, is_a.1, is_b.0, is_b.1, same), omega (arith, is_q.0, is_q.1, is_p.0, is_p.1, is_a.0, is_a.1, is_b.0, is_b.1, same))

-- the same numbers
pub counts-same : (table : List ℕ) (f g : Turns) → ((q p : ℕ) → f q p ≡ g q p) → AreCounts table f → AreCounts table g
counts-same table f g same are q p is_q is_p = are q p is_q is_p ∙ same q p

-- zeros
pub counts-zeros : AreCounts (replicate (MAX_INSTANCES * MAX_INSTANCES) 0) (λ q p. 0)
counts-zeros q p is_q is_p = get_or-replicate (MAX_INSTANCES * MAX_INSTANCES) (slot_of q p) 0 0 (slot-within q p is_q is_p)

-- one number raised
pub counts-raised : (table : List ℕ) (f : Turns) (a b m : ℕ) → length table ≡ MAX_INSTANCES * MAX_INSTANCES → IsInstance a → IsInstance b → AreCounts table f → AreCounts (set table (slot_of a b) (max (slice_index table (slot_of a b)) m)) (raise f a b m)
counts-raised table f a b m whole is_a is_b are q p is_q is_p = elim (cases_eq (slot_of a b) (slot_of q p)) [
  | inl same ↦
      let ends = slot-same a b q p is_a is_b is_q is_p same in
      subst (λ x. slice_index (set table (slot_of a b) (max (slice_index table (slot_of a b)) m)) (slot_of x p) ≡ raise f a b m x p) ends.0
      (subst (λ y. slice_index (set table (slot_of a b) (max (slice_index table (slot_of a b)) m)) (slot_of a y) ≡ raise f a b m a y) ends.1 at_lane)
  | inr differs ↦ get_or-set_other table (slot_of a b) (slot_of q p) (max (slice_index table (slot_of a b)) m) 0 (λ e. differs (sym e)) ∙ are q p is_q is_p ∙ other (is_lane a b q p) refl differs
]
  where
    at_lane : slice_index (set table (slot_of a b) (max (slice_index table (slot_of a b)) m)) (slot_of a b) ≡ raise f a b m a b
    at_lane = rw (is_lane-same a b) (get_or-set_same table (slot_of a b) (max (slice_index table (slot_of a b)) m) 0 (omega (arith, whole, slot-within a b is_a is_b)) ∙ ap (λ x. max x m) (are a b is_a is_b))

    other : (its : Bool) → is_lane a b q p ≡ its → (slot_of a b ≡ slot_of q p → ⊥) → f q p ≡ cond its (max (f q p) m) (f q p)
    other true lane differs =
        let ends = and_parts (a == q) (b == p) lane in
        absurd (differs (ap (λ x. slot_of x b) (eqb-true a q ends.0) ∙ ap (λ y. slot_of q y) (eqb-true b p ends.1)))
    other false lane differs = refl
