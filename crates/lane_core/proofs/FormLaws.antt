-- Laws of a form, from facts that hold after each of its runs.
use Rattle.std.proofs.Common.{◌≡◌, ℕ, ◌≤◌, true, List, [], ◌∷◌, ◌++◌, refl, ◌∙◌, arith}
use Rattle.std.specs.Prelude.{reverse}
use Rattle.std.proofs.lemmas.List.{append_assoc}
use Rattle.lane_core.specs.Forms.{Form, IsRun, traffic_of, receiver_finds}
use Rattle.lane_core.specs.Laws.{FreedInOrder, AtMostCapacity, NothingAfterClose, MessageExactly, EndedExactly}
use Rattle.lane_core.specs.Steps.{Step}
use Rattle.lane_core.specs.Traffic.{Traffic}
use Rattle.lane_core.proofs.Passing.{Holds, HasRoom, IsFoundRightly, count_waiting}

-- the published messages stay, and the lane stays closed
pub record StaysClosed {M : Type 0} (t u : Traffic M) : Type 0 where
  pub published : u.published ≡ t.published
  pub closed : u.closed ≡ true

module _ {M : Type 0} (form : Form M)
    (holds : (k : ℕ) (h : List (Step M)) → 1 ≤ k → IsRun form k h → Holds k (traffic_of form k h))
    (room : (k : ℕ) (h : List (Step M)) → 1 ≤ k → IsRun form k h → HasRoom k (traffic_of form k h))
    (stays : (k : ℕ) (h : List (Step M)) (e : Step M) → 1 ≤ k → IsRun form k (e ∷ h) → (traffic_of form k h).closed ≡ true → StaysClosed (traffic_of form k h) (traffic_of form k (e ∷ h)))
    (found : (k : ℕ) (h : List (Step M)) → 1 ≤ k → IsRun form k h → IsFoundRightly (traffic_of form k h) (receiver_finds form k h)) where
  pub in_order : FreedInOrder form
  in_order k h some run =
      let t = traffic_of form k h in
      let held = holds k h some run in
      (reverse t.emptying ++ held.left, held.order ∙ append_assoc t.freed (reverse t.emptying) held.left)

  pub bounded : AtMostCapacity form
  bounded k h some run = omega (arith, room k h some run, count_waiting (traffic_of form k h))

  pub nothing_after_close : NothingAfterClose form
  nothing_after_close k h [] some run closed = (refl, closed)
  nothing_after_close k h (e ∷ more) some run closed =
      let before = nothing_after_close k h more some run.1 closed in
      let now = stays k (more ++ h) e some run before.1 in
      (now.published ∙ before.0, now.closed)

  pub message_exactly : MessageExactly form
  message_exactly k h some run = (found k h some run).0

  pub ended_exactly : EndedExactly form
  ended_exactly k h some run = (found k h some run).1
