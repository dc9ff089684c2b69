-- What is found for a receive and another step of a run.
use Rattle.std.proofs.Common.{◌≡◌, ℕ, ◌+◌, ◌≤◌, ◌⊎◌, inl, true, false, not, List, [], ◌∷◌, ◌++◌, length, take, drop, Some, refl, sym, ap, ap₂, ◌∙◌, subst, subst₂, arith}
use Rattle.std.specs.Prelude.{slice_get, slice_index_or}
use Rattle.std.proofs.lemmas.Option.{slice_get_read, slice_get_within, same_Some}
use Rattle.std.proofs.lemmas.Bool.{leb-true, le-leb, false≢true}
use Rattle.std.proofs.lemmas.List.{take-append-drop}
use Rattle.chart.specs.declared.history.Occurrence.{Occurrence}
use Rattle.chart.specs.Events.{is_send_to, is_receive_from, tally}
use Rattle.chart.specs.Histories.{sent, received, chart_of, IsLegal, Begins}
use Rattle.chart.specs.Charts.{Place, IsReceiveFrom, BelongsTo}
use Rattle.chart.proofs.Belongs.{not_both, one_sender, one_receiver}
use Rattle.chart.proofs.Histories.{begins_same, begins_onward}
use Rattle.reordering.specs.OtherRuns.OtherRuns.{IsRunWithin, IsOvertaken, BeforeWithin}
use Rattle.reordering.specs.OtherRuns.Walks.{Wanted, first_wanted, wanted, parted}
use Rattle.reordering.proofs.OtherRunsLemmas.Turns.{IsWithin}
use Rattle.reordering.proofs.OtherRunsLemmas.Turns.IsWithin.{send, receive}
use Rattle.reordering.proofs.OtherRunsLemmas.Newest.{next_place, newest_send, newest_receive}
use Rattle.reordering.proofs.OtherRunsLemmas.Sound.{wanted_first, sound}
use Rattle.reordering.proofs.OtherRunsLemmas.Slots.{is_run, comes_first_there, wants_up}
use Rattle.chart.specs.declared.run_steps.step.Step.{Step}
use Rattle.chart.specs.declared.run_steps.step.Step.TheVariants.{Send, Receive}
use Rattle.reordering.specs.declared.witness.numbered.NumberedStep.{NumberedStep}
use Rattle.reordering.specs.Witness.Orders.{picked, IsInOrder}
use Rattle.reordering.specs.Witness.Steps.{AreNumbered, is_within, with_step, nothing, comes}
use Rattle.chart.specs.RunSteps.Steps.{occurrence_of, after, history_of, turn_of, place_after}
use Rattle.reordering.proofs.WitnessLemmas.PickLemmas.{comes-is}
use Rattle.chart.proofs.RunStepsLemmas.StepLemmas.{after-append, history-next}

-- a history is continued by steps
pub begins-after : (h : List Occurrence) (ys : List Step) → Begins h (after h ys)
begins-after h [] = begins_same h
begins-after h (y ∷ ys) = begins_onward h (occurrence_of y ∷ h) (after (occurrence_of y ∷ h) ys) (occurrence_of y ∷ [], refl) (begins-after (occurrence_of y ∷ h) ys)

-- a run begins with the history that it made up to a step
pub begins-at : (steps : List Step) (i : ℕ) (x : Step) → slice_get steps i ≡ Some x → Begins (occurrence_of x ∷ history_of (take i steps)) (history_of steps)
begins-at steps i x is =
    subst₂ (λ h g. Begins h g) (history-next steps i x is) (sym (after-append [] (take (i + 1) steps) (drop (i + 1) steps)) ∙ ap history_of (take-append-drop (i + 1) steps))
    (begins-after (history_of (take (i + 1) steps)) (drop (i + 1) steps))

module _ (n k : ℕ) (steps : List Step) (legal : IsLegal n k (history_of steps)) where
  -- the send of a receive of the run
  its_send : (i a b c : ℕ) → slice_get steps i ≡ Some (Receive a b c) → (s : Place) × BelongsTo (chart_of (history_of steps)) s (next_place (history_of (take i steps)) a) × (s.instance ≡ b) × (tally (is_send_to a) (chart_of (history_of steps) b) s.index ≡ received (history_of (take i steps)) b a + 1)
  its_send i a b c is = newest_receive n k (history_of (take i steps)) (history_of steps) legal a b c (begins-at steps i (Receive a b c) is)

  from_it : (i a b c : ℕ) → slice_get steps i ≡ Some (Receive a b c) → IsReceiveFrom (chart_of (history_of steps)) b (next_place (history_of (take i steps)) a)
  from_it i a b c is = let w = its_send i a b c is in subst (λ x. IsReceiveFrom (chart_of (history_of steps)) x (next_place (history_of (take i steps)) a)) w.2 w.1.received

  -- its turn, from its sender
  turn_by : (i a b c : ℕ) (is : slice_get steps i ≡ Some (Receive a b c)) → tally (is_receive_from (its_send i a b c is).0.instance) (chart_of (history_of steps) a) (length (chart_of (history_of (take i steps)) a) + 1) ≡ received (history_of (take i steps)) b a + 1
  turn_by i a b c is =
      let w = its_send i a b c is in
      sym w.1.turn ∙ subst (λ x. tally (is_send_to a) (chart_of (history_of steps) x) w.0.index ≡ received (history_of (take i steps)) b a + 1) (sym w.2) w.3

  turn_it : (i a b c : ℕ) → slice_get steps i ≡ Some (Receive a b c) → tally (is_receive_from b) (chart_of (history_of steps) a) (length (chart_of (history_of (take i steps)) a) + 1) ≡ received (history_of (take i steps)) b a + 1
  turn_it i a b c is = subst (λ x. tally (is_receive_from x) (chart_of (history_of steps) a) (length (chart_of (history_of (take i steps)) a) + 1) ≡ received (history_of (take i steps)) b a + 1) (its_send i a b c is).2 (turn_by i a b c is)

  -- a step that is within makes an event that is within
  within-at : (w : Wanted) (j : ℕ) (x : Step) → slice_get steps j ≡ Some x → is_within w x (turn_of (history_of (take j steps)) x) ≡ true → IsWithin (chart_of (history_of steps)) w.sends w.receives (place_after steps j x)
  within-at w j (Send a b name) is few =
      let its = newest_send (history_of (take j steps)) (history_of steps) a b (record { name = name; body = [] }) (begins-at steps j (Send a b name) is) in
      send b its.0 (omega (arith, its.1, leb-true (length (sent (history_of (take j steps)) a b) + 1) (w.sends a b) few))
  within-at w j (Receive a b c) is few = receive b (from_it j a b c is) (omega (arith, turn_it j a b c is, leb-true (received (history_of (take j steps)) b a + 1) (w.receives b a) few))

  -- an event that is within is made by a step that is within
  at-within : (w : Wanted) (j : ℕ) (x : Step) → slice_get steps j ≡ Some x → IsWithin (chart_of (history_of steps)) w.sends w.receives (place_after steps j x) → is_within w x (turn_of (history_of (take j steps)) x) ≡ true
  at-within w j (Send a b name) is (send q to le) =
      let its = newest_send (history_of (take j steps)) (history_of steps) a b (record { name = name; body = [] }) (begins-at steps j (Send a b name) is) in
      let few = subst (λ x. tally (is_send_to x) (chart_of (history_of steps) a) (length (chart_of (history_of (take j steps)) a) + 1) ≤ w.sends a x) (one_receiver (chart_of (history_of steps)) q b (next_place (history_of (take j steps)) a) to its.0) le in
      le-leb (length (sent (history_of (take j steps)) a b) + 1) (w.sends a b) (omega (arith, its.1, few))
  at-within w j (Send a b name) is (receive q from le) =
      let its = newest_send (history_of (take j steps)) (history_of steps) a b (record { name = name; body = [] }) (begins-at steps j (Send a b name) is) in
      absurd (not_both (chart_of (history_of steps)) b q (next_place (history_of (take j steps)) a) its.0 from)
  at-within w j (Receive a b c) is (send q to le) = absurd (not_both (chart_of (history_of steps)) q b (next_place (history_of (take j steps)) a) to (from_it j a b c is))
  at-within w j (Receive a b c) is (receive q from le) =
      let few = subst (λ x. tally (is_receive_from x) (chart_of (history_of steps) a) (length (chart_of (history_of (take j steps)) a) + 1) ≤ w.receives x a) (one_sender (chart_of (history_of steps)) q b (next_place (history_of (take j steps)) a) from (from_it j a b c is)) le in
      le-leb (received (history_of (take j steps)) b a + 1) (w.receives b a) (omega (arith, turn_it j a b c is, few))

  module _ (i a b c : ℕ) (is : slice_get steps i ≡ Some (Receive a b c)) (j : ℕ) (x : Step) (at_j : slice_get steps j ≡ Some x) where
    -- what is wanted for the receive, as it is found
    abbrev pub all_wanted : Wanted
    all_wanted = wanted k (history_of steps) (with_step k nothing (Receive a b c) (turn_of (history_of (take i steps)) (Receive a b c)))

    abbrev its_wanted : Wanted
    its_wanted = wanted k (history_of steps) (wanted_first n k (history_of steps) legal (its_send i a b c is).0 (next_place (history_of (take i steps)) a) (its_send i a b c is).1)

    same_wanted : all_wanted ≡ its_wanted
    same_wanted = ap (wanted k (history_of steps)) (ap₂ (λ q t. first_wanted q a t) (sym (its_send i a b c is).2) (sym (turn_by i a b c is)))

    pub found_none : is_within all_wanted x (turn_of (history_of (take j steps)) x) ≡ true → (place_after steps j x ≡ place_after steps i (Receive a b c)) ⊎ BeforeWithin k (chart_of (history_of steps)) (place_after steps j x) (place_after steps i (Receive a b c))
    found_none within =
        let s = its_send i a b c is in
        sound n k (history_of steps) legal s.0 (next_place (history_of (take i steps)) a) s.1 (place_after steps j x) (within-at its_wanted j x at_j (subst (λ w. is_within w x (turn_of (history_of (take j steps)) x) ≡ true) same_wanted within))

    -- conversely, the receive and the events before it are wanted
    pub wanted_up : (place_after steps j x ≡ place_after steps i (Receive a b c)) ⊎ BeforeWithin k (chart_of (history_of steps)) (place_after steps j x) (place_after steps i (Receive a b c)) → is_within all_wanted x (turn_of (history_of (take j steps)) x) ≡ true
    wanted_up up =
        let s = its_send i a b c is in
        subst (λ w. is_within w x (turn_of (history_of (take j steps)) x) ≡ true) (sym same_wanted)
        (at-within its_wanted j x at_j (wants_up n k (history_of steps) legal s.0 (next_place (history_of (take i steps)) a) s.1 (place_after steps j x) up))

    pub found_run : is_within all_wanted x (turn_of (history_of (take j steps)) x) ≡ false → (run : List Step) → history_of run ≡ parted all_wanted.sends all_wanted.receives (history_of steps) (history_of steps)
        → IsRunWithin n k (chart_of (history_of steps)) (history_of run) × IsOvertaken (chart_of (history_of steps)) (history_of run) (place_after steps j x) (place_after steps i (Receive a b c))
    found_run outside run made =
        let s = its_send i a b c is in
        let r : Place = next_place (history_of (take i steps)) a in
        let g : List Occurrence = history_of steps in
        let there = made ∙ ap (λ (w : Wanted). parted w.sends w.receives g g) same_wanted in
        let first = comes_first_there n k g legal s.0 r s.1 in
        subst (λ f. IsRunWithin n k (chart_of g) f × IsOvertaken (chart_of g) f (place_after steps j x) (place_after steps i (Receive a b c))) (sym there) (
          is_run n k g legal s.0 r s.1,
          (
            first.0,
            first.1,
            (first.2 r).1 (inl refl),
            λ come.
                let within = at-within its_wanted j x at_j (wants_up n k g legal s.0 r s.1 (place_after steps j x) ((first.2 (place_after steps j x)).0 come)) in
                false≢true (sym outside ∙ ap (λ (w : Wanted). is_within w x (turn_of (history_of (take j steps)) x)) same_wanted ∙ within),
          ),
        )

-- the step that a table has at a number, and its turn
pub numbered-at : (steps : List Step) (numbered : List NumberedStep) (i : ℕ) (t : NumberedStep) (x : Step) → AreNumbered steps (length steps) numbered → t ≡ slice_index_or numbered i t → slice_get steps i ≡ Some x → (t.step ≡ x) × (t.turn ≡ turn_of (history_of (take i steps)) x)
numbered-at steps numbered i t x are read is =
    let its = are.each i t (slice_get_read numbered (length numbered) i t refl (omega (arith, are.whole, slice_get_within steps i x is)) read) in
    let same = same_Some t.step x (sym its.0 ∙ is) in
    (same, its.1 ∙ ap (turn_of (history_of (take i steps))) same)

-- what is wanted with it
pub with_step-at : (k : ℕ) (x y : Step) (t u : ℕ) → x ≡ y → t ≡ u → with_step k nothing x t ≡ with_step k nothing y u
with_step-at k x y t u same turn = ap₂ (λ a b. with_step k nothing a b) same turn

pub is_within-at : (w v : Wanted) (x y : Step) (t u : ℕ) → w ≡ v → x ≡ y → t ≡ u → is_within w x t ≡ is_within v y u
is_within-at w v x y t u wants same turn = ap₂ (λ a b. is_within w a b) same turn ∙ ap (λ a. is_within a y u) wants

-- the run has the wanted steps first, so its steps are in that order
pub in_order : (n k : ℕ) (steps : List Step) → IsLegal n k (history_of steps) → (i a b c : ℕ) → slice_get steps i ≡ Some (Receive a b c) → (w : Wanted) → w ≡ wanted k (history_of steps) (with_step k nothing (Receive a b c) (turn_of (history_of (take i steps)) (Receive a b c))) → (run : List Step)
    → run ≡ picked (comes w steps) steps (length steps) ++ picked (λ j. not (comes w steps j)) steps (length steps) → IsInOrder k steps (place_after steps i (Receive a b c)) run
in_order n k steps legal i a b c is w wants run made = record {
  first = comes w steps;
  right = λ j x at_j.
      let here = comes-is w steps j x (turn_of (history_of (take j steps)) x) at_j refl (is_within w x (turn_of (history_of (take j steps)) x)) refl in
      let is_receive : comes w steps j ≡ is_within (wanted k (history_of steps) (with_step k nothing (Receive a b c) (turn_of (history_of (take i steps)) (Receive a b c)))) x (turn_of (history_of (take j steps)) x) =
      here ∙ ap (λ v. is_within v x (turn_of (history_of (take j steps)) x)) wants in (
        λ its. found_none n k steps legal i a b c is j x at_j (sym is_receive ∙ its),
        λ up. is_receive ∙ wanted_up n k steps legal i a b c is j x at_j up,
      );
  order = made;
}
