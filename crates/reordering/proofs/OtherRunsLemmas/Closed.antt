-- What is wanted for a receive is closed: all events directly before a wanted one are wanted too.
use Rattle.std.proofs.Common.{◌≡◌, ℕ, ◌+◌, ◌-◌, ◌≤◌, ◌⊎◌, inl, inr, ⊎_elim, ◌==◌, ◌||◌, nat_lt, Bool, true, false, cond, List, [], ◌∷◌, length, refl, sym, ap, ◌∙◌, subst, subst₂, arith, eq-eqb, lt-ltb, append-nil, length-drop}
use Rattle.std.proofs.lemmas.Bool.{false≢true}
use Rattle.std.proofs.lemmas.List.{length_push}
use Rattle.chart.specs.declared.history.Occurrence.{Occurrence}
use Rattle.chart.specs.declared.history.Occurrence.TheVariants.{Send, Receive, Close}
use Rattle.chart.specs.Messages.{Content}
use Rattle.chart.specs.Events.{is_send_to, is_receive_from, tally}
use Rattle.chart.specs.Histories.{by, sent, received, chart_of, IsLegal, Begins}
use Rattle.chart.specs.Charts.{Place, IsSendTo, IsReceiveFrom, BelongsTo}
use Rattle.chart.specs.Places.{IsEvent}
use Rattle.chart.specs.Order.Direct.{message, to_send, same_sender}
use Rattle.chart.proofs.Tally.{tally-le}
use Rattle.chart.proofs.Belongs.{IsEvent-from_passes, same_place, same_send, not_both, one_sender, one_receiver}
use Rattle.chart.proofs.Begun.{legal_begun}
use Rattle.chart.proofs.Cycles.{event_cases}
use Rattle.chart.proofs.Histories.{is_lane-same, begins_onward}
use Rattle.reordering.specs.OtherRuns.Walks.{Wanted, raise, step, wanted, wants_receive, wants_send, with_receive, with_send}
use Rattle.reordering.specs.OtherRuns.OtherRuns.{HasCome, DirectWithin}
use Rattle.reordering.specs.OtherRuns.OtherRuns.HasCome.{was_sent, was_received}
use Rattle.reordering.specs.OtherRuns.OtherRuns.DirectWithin.{enforced, freed}
use Rattle.reordering.proofs.OtherRunsLemmas.Turns.{IsWithin, within_weaker}
use Rattle.reordering.proofs.OtherRunsLemmas.Turns.IsWithin.{send, receive}
use Rattle.reordering.proofs.OtherRunsLemmas.Causes.{come_there}
use Rattle.reordering.proofs.OtherRunsLemmas.Wanted.{raise-old, raise-new, raise-cases}
use Rattle.reordering.proofs.OtherRunsLemmas.Newest.{next_place, is_there, newest_send, newest_receive}

-- if the second of two tests passes, one of both does
or_right : (x y : Bool) → y ≡ true → (x || y) ≡ true
or_right true y passes = refl
or_right false y passes = passes

or_left : (x y : Bool) → x ≡ true → (x || y) ≡ true
or_left true y passes = refl
or_left false y passes = absurd (false≢true passes)

module _ (n k : ℕ) (g : List Occurrence) (legal : IsLegal n k g) where
  abbrev IsWanted : Wanted → Place → Type 0
  IsWanted w e = IsWithin (chart_of g) w.sends w.receives e

  -- e will be wanted: it is on a line of which all remaining events are
  abbrev WillBe : List Occurrence → Wanted → Place → Type 0
  WillBe h w e = (w.all e.instance ≡ true) × IsEvent (chart_of h) e

  -- an event directly before a wanted one that doesn't remain is wanted or will be
  abbrev pub IsClosed : List Occurrence → Wanted → Type 0
  IsClosed h w = (e f : Place) → IsWanted w f → (IsEvent (chart_of h) f → ⊥) → DirectWithin k (chart_of g) e f → IsWanted w e ⊎ WillBe h w e

  -- How one event x changes what is wanted.
  record IsStep (h : List Occurrence) (x : Occurrence) (w v : Wanted) : Type 0 where
    pub grown : (e : Place) → IsWanted w e → IsWanted v e
    pub only : (e : Place) → IsWanted v e → IsWanted w e ⊎ HasCome (chart_of g) (x ∷ h) e
    pub all : (p : ℕ) → w.all p ≡ true → v.all p ≡ true
    pub newest : w.all (by x) ≡ true → IsWanted v (next_place h (by x))
    pub causes : (e : Place) → IsWanted v (next_place h (by x)) → DirectWithin k (chart_of g) e (next_place h (by x)) → IsWanted v e ⊎ WillBe h v e

  -- what is wanted stays closed
  closed-step : (h : List Occurrence) (x : Occurrence) (w v : Wanted) → Begins (x ∷ h) g → IsStep h x w v → IsClosed (x ∷ h) w → IsClosed h v
  closed-step h x w v begins step closed e f wants gone d =
      elim (is_there (x ∷ h) f (index_of wants)) [
        | inl here ↦
            elim (event_cases h x f here) [
              | inl left ↦ absurd (gone left)
              | inr newest ↦
                  let same = place_is f newest in
                  step.causes e (subst (IsWanted v) same wants) (subst (λ y. DirectWithin k (chart_of g) e y) same d)
            ]
        | inr past ↦
            elim (step.only f wants) [
              | inr come ↦ absurd (past (come_there n k g legal (x ∷ h) begins f come))
              | inl was ↦
                  elim (closed e f was past d) [
                    | inl old ↦ inl (step.grown e old)
                    | inr will ↦
                        elim (event_cases h x e will.1) [
                          | inl left ↦ inr (step.all e.instance will.0, left)
                          | inr newest ↦ inl (subst (IsWanted v) (sym (place_is e newest)) (step.newest (subst (λ p. w.all p ≡ true) (sym newest.0) will.0)))
                        ]
                  ]
            ]
      ]
    where
      index_of : {y : Place} → IsWanted v y → 1 ≤ y.index
      index_of {y = y} (send q is le) = (IsEvent-from_passes (chart_of g) (is_send_to q) y is).0
      index_of {y = y} (receive q is le) = (IsEvent-from_passes (chart_of g) (is_receive_from q) y is).0

      place_is : (y : Place) → (by x ≡ y.instance) × (y.index ≡ length (chart_of h y.instance) + 1) → y ≡ next_place h (by x)
      place_is y (its, last) = same_place y (next_place h (by x)) (sym its) (last ∙ ap (λ p. length (chart_of h p) + 1) (sym its))

  -- a wanted send
  step-send : (h : List Occurrence) (a b : ℕ) (m : Content) (w : Wanted) → Begins (Send a b m ∷ h) g → IsStep h (Send a b m) w (with_send k h a b w)
  step-send h a b m w begins = record {
    grown = λ e is. within_weaker (chart_of g) w.sends w.receives (with_send k h a b w).sends (with_send k h a b w).receives (raise-old w.sends a b (length (sent h a b) + 1)) (raise-old w.receives a b (length (sent h a b) + 1 - k)) e is;
    only = only;
    all = λ p old. or_right (a == p) (w.all p) old;
    newest = λ all. send b its (omega (arith, raise-new w.sends a b (length (sent h a b) + 1), turn));
    causes = causes;
  }
    where
      its : IsSendTo (chart_of g) b (next_place h a)
      its = (newest_send h g a b m begins).0

      turn : tally (is_send_to b) (chart_of g a) (length (chart_of h a) + 1) ≡ length (sent h a b) + 1
      turn = (newest_send h g a b m begins).1

      now_sent : length (sent (Send a b m ∷ h) a b) ≡ length (sent h a b) + 1
      now_sent = rw (is_lane-same a b) (length_push (sent h a b) m)

      slots : length (sent h a b) + 1 - k ≤ received h a b
      slots = omega (arith, (legal_begun n k (Send a b m ∷ h) g begins legal).0.2, length-drop (received h a b) (sent h a b))

      only : (e : Place) → IsWanted (with_send k h a b w) e → IsWanted w e ⊎ HasCome (chart_of g) (Send a b m ∷ h) e
      only e (send q is le) = elim (raise-cases w.sends a b (length (sent h a b) + 1) e.instance q (tally (is_send_to q) (chart_of g e.instance) e.index) le) [
        | inl old ↦ inl (send q is old)
        | inr new ↦
            let now = subst₂ (λ y z. length (sent (Send a b m ∷ h) y z) ≡ length (sent h a b) + 1) new.0 new.1 now_sent in
            inr (was_sent q is (omega (arith, new.2, now)))
      ]
      only e (receive q is le) = elim (raise-cases w.receives a b (length (sent h a b) + 1 - k) q e.instance (tally (is_receive_from q) (chart_of g e.instance) e.index) le) [
        | inl old ↦ inl (receive q is old)
        | inr new ↦
            let now = subst₂ (λ y z. length (sent h a b) + 1 - k ≤ received h y z) new.0 new.1 slots in
            inr (was_received q is (omega (arith, new.2, now)))
      ]

      causes : (e : Place) → IsWanted (with_send k h a b w) (next_place h a) → DirectWithin k (chart_of g) e (next_place h a) → IsWanted (with_send k h a b w) e ⊎ WillBe h (with_send k h a b w) e
      causes e wants (enforced (message bel)) = absurd (not_both (chart_of g) b e.instance (next_place h a) its bel.received)
      causes e wants (enforced (to_send q l is)) = inr (or_left (a == e.instance) (w.all e.instance) (eq-eqb a e.instance (sym l.line)), (l.begun, subst (λ p. e.index ≤ length (chart_of h p)) (sym l.line) (omega (arith, l.less))))
      causes e wants (enforced (same_sender q l x y)) = absurd (not_both (chart_of g) b q (next_place h a) its y)
      causes e wants (freed is to le) =
          let line = one_receiver (chart_of g) b e.instance (next_place h a) its to in
          let its_turn = subst (λ x. tally (is_send_to x) (chart_of g a) (length (chart_of h a) + 1) ≡ length (sent h a b) + 1) line turn in
          let enough = subst (λ x. length (sent h a b) + 1 - k ≤ raise w.receives a b (length (sent h a b) + 1 - k) a x) line (raise-new w.receives a b (length (sent h a b) + 1 - k)) in
          inl (receive a is (omega (arith, le, its_turn, enough)))

  -- a send that isn't wanted
  skip-send : (h : List Occurrence) (a b : ℕ) (m : Content) (w : Wanted) → Begins (Send a b m ∷ h) g → wants_send h a b w ≡ false → IsStep h (Send a b m) w w
  skip-send h a b m w begins never = record {
    grown = λ e is. is;
    only = λ e is. inl is;
    all = λ p old. old;
    newest = λ all. absurd (false≢true (sym never ∙ or_left (w.all a) (nat_lt (length (sent h a b)) (w.sends a b)) all));
    causes = λ e wants d. absurd (unwanted wants);
  }
    where
      its : IsSendTo (chart_of g) b (next_place h a)
      its = (newest_send h g a b m begins).0

      unwanted : IsWanted w (next_place h a) → ⊥
      unwanted (send q is le) =
          let few = subst (λ x. tally (is_send_to x) (chart_of g a) (length (chart_of h a) + 1) ≤ w.sends a x) (one_receiver (chart_of g) q b (next_place h a) is its) le in
          false≢true (sym never ∙ or_right (w.all a) (nat_lt (length (sent h a b)) (w.sends a b)) (lt-ltb (length (sent h a b)) (w.sends a b) (omega (arith, few, (newest_send h g a b m begins).1))))
      unwanted (receive q is le) = not_both (chart_of g) b q (next_place h a) its is

  module _ (h : List Occurrence) (a b c : ℕ) (begins : Begins (Receive a b c ∷ h) g) where
    new_one : (t : Place) × BelongsTo (chart_of g) t (next_place h a) × (t.instance ≡ b) × (tally (is_send_to a) (chart_of g b) t.index ≡ received h b a + 1)
    new_one = newest_receive n k h g legal a b c begins

    its_receive : IsReceiveFrom (chart_of g) b (next_place h a)
    its_receive = subst (λ x. IsReceiveFrom (chart_of g) x (next_place h a)) new_one.2 new_one.1.received

    its_sends : tally (is_send_to a) (chart_of g new_one.0.instance) new_one.0.index ≡ received h b a + 1
    its_sends = subst (λ x. tally (is_send_to a) (chart_of g x) new_one.0.index ≡ received h b a + 1) (sym new_one.2) new_one.3

    its_turn : tally (is_receive_from b) (chart_of g a) (length (chart_of h a) + 1) ≡ received h b a + 1
    its_turn = subst (λ x. tally (is_receive_from x) (chart_of g a) (length (chart_of h a) + 1) ≡ received h b a + 1) new_one.2 (sym new_one.1.turn ∙ its_sends)

    -- a wanted receive
    step-receive : (w : Wanted) → IsStep h (Receive a b c) w (with_receive h a b w)
    step-receive w = record {
      grown = λ e is. within_weaker (chart_of g) w.sends w.receives (with_receive h a b w).sends (with_receive h a b w).receives (raise-old w.sends b a (received h b a + 1)) (raise-old w.receives b a (received h b a + 1)) e is;
      only = only;
      all = λ p old. old;
      newest = λ all. receive b its_receive (omega (arith, raise-new w.receives b a (received h b a + 1), its_turn));
      causes = causes;
    }
      where
        now_received : received (Receive a b c ∷ h) b a ≡ received h b a + 1
        now_received = rw (is_lane-same b a) refl

        some : received h b a + 1 ≤ length (sent h b a)
        some = omega (arith, (legal_begun n k (Receive a b c ∷ h) g begins legal).0.1, length-drop (received h b a) (sent h b a))

        only : (e : Place) → IsWanted (with_receive h a b w) e → IsWanted w e ⊎ HasCome (chart_of g) (Receive a b c ∷ h) e
        only e (send q is le) = elim (raise-cases w.sends b a (received h b a + 1) e.instance q (tally (is_send_to q) (chart_of g e.instance) e.index) le) [
          | inl old ↦ inl (send q is old)
          | inr new ↦
              let now = subst₂ (λ y z. received h b a + 1 ≤ length (sent h y z)) new.0 new.1 some in
              inr (was_sent q is (omega (arith, new.2, now)))
        ]
        only e (receive q is le) = elim (raise-cases w.receives b a (received h b a + 1) q e.instance (tally (is_receive_from q) (chart_of g e.instance) e.index) le) [
          | inl old ↦ inl (receive q is old)
          | inr new ↦
              let now = subst₂ (λ y z. received (Receive a b c ∷ h) y z ≡ received h b a + 1) new.0 new.1 now_received in
              inr (was_received q is (omega (arith, new.2, now)))
        ]

        causes : (e : Place) → IsWanted (with_receive h a b w) (next_place h a) → DirectWithin k (chart_of g) e (next_place h a) → IsWanted (with_receive h a b w) e ⊎ WillBe h (with_receive h a b w) e
        causes e wants (enforced (message bel)) =
            let enough = subst (λ x. received h b a + 1 ≤ raise w.sends b a (received h b a + 1) x a) (sym new_one.2) (raise-new w.sends b a (received h b a + 1)) in
            inl (subst (IsWanted (with_receive h a b w)) (same_send (chart_of g) new_one.0 e (next_place h a) new_one.1 bel) (send a new_one.1.sent (omega (arith, its_sends, enough))))
        causes e wants (enforced (to_send q l is)) = absurd (not_both (chart_of g) q b (next_place h a) is its_receive)
        causes e wants (enforced (same_sender q l x y)) =
            let from = subst (λ z. IsReceiveFrom (chart_of g) z e) (one_sender (chart_of g) q b (next_place h a) y its_receive) x in
            let fewer = subst (λ z. tally (is_receive_from b) (chart_of g z) e.index ≤ tally (is_receive_from b) (chart_of g z) (length (chart_of h a) + 1)) (sym l.line) (tally-le (is_receive_from b) (chart_of g a) e.index (length (chart_of h a) + 1) (omega (arith, l.less))) in
            let turn = subst (λ z. tally (is_receive_from b) (chart_of g z) (length (chart_of h a) + 1) ≡ received h b a + 1) (sym l.line) its_turn in
            let enough = subst (λ z. received h b a + 1 ≤ raise w.receives b a (received h b a + 1) b z) (sym l.line) (raise-new w.receives b a (received h b a + 1)) in
            inl (receive b from (omega (arith, fewer, turn, enough)))
        causes e wants (freed is to le) = absurd (not_both (chart_of g) e.instance b (next_place h a) to its_receive)

    -- a receive that isn't wanted
    skip-receive : (w : Wanted) → wants_receive h a b w ≡ false → IsStep h (Receive a b c) w w
    skip-receive w never = record {
      grown = λ e is. is;
      only = λ e is. inl is;
      all = λ p old. old;
      newest = λ all. absurd (false≢true (sym never ∙ or_left (w.all a) (nat_lt (received h b a) (w.receives b a)) all));
      causes = λ e wants d. absurd (unwanted wants);
    }
      where
        unwanted : IsWanted w (next_place h a) → ⊥
        unwanted (send q is le) = not_both (chart_of g) q b (next_place h a) is its_receive
        unwanted (receive q is le) =
            let few = subst (λ x. tally (is_receive_from x) (chart_of g a) (length (chart_of h a) + 1) ≤ w.receives x a) (one_sender (chart_of g) q b (next_place h a) is its_receive) le in
            false≢true (sym never ∙ or_right (w.all a) (nat_lt (received h b a) (w.receives b a)) (lt-ltb (received h b a) (w.receives b a) (omega (arith, few, its_turn))))

  -- one event
  closed-next : (h : List Occurrence) (x : Occurrence) (w : Wanted) → Begins (x ∷ h) g → IsClosed (x ∷ h) w → IsClosed h (step k h x w)
  closed-next h (Send a b m) w begins closed = go (wants_send h a b w) refl
    where
      go : (wants : Bool) → wants_send h a b w ≡ wants → IsClosed h (cond wants (with_send k h a b w) w)
      go true e = closed-step h (Send a b m) w (with_send k h a b w) begins (step-send h a b m w begins) closed
      go false e = closed-step h (Send a b m) w w begins (skip-send h a b m w begins e) closed
  closed-next h (Receive a b c) w begins closed = go (wants_receive h a b w) refl
    where
      go : (wants : Bool) → wants_receive h a b w ≡ wants → IsClosed h (cond wants (with_receive h a b w) w)
      go true e = closed-step h (Receive a b c) w (with_receive h a b w) begins (step-receive h a b c begins w) closed
      go false e = closed-step h (Receive a b c) w w begins (skip-receive h a b c begins w e) closed
  closed-next h (Close a b) w begins closed = λ e f wants gone d. ⊎_elim
      inl
      (λ will. inr (will.0, (will.1.0, omega (arith, will.1.1, ap length (append-nil (chart_of h e.instance))))))
      (closed e f wants (λ here. gone (here.0, omega (arith, here.1, ap length (append-nil (chart_of h f.instance))))) d)

  -- all events
  closed-wanted : (h : List Occurrence) (w : Wanted) → Begins h g → IsClosed h w → IsClosed [] (wanted k h w)
  closed-wanted [] w begins closed = closed
  closed-wanted (x ∷ h) w begins closed = closed-wanted h (step k h x w) (begins_onward h (x ∷ h) g (x ∷ [], refl) begins) (closed-next h x w begins closed)

  -- at the end, whatever was wanted at first
  pub closed-end : (w : Wanted) (e f : Place) → DirectWithin k (chart_of g) e f → IsWithin (chart_of g) (wanted k g w).sends (wanted k g w).receives f → IsWithin (chart_of g) (wanted k g w).sends (wanted k g w).receives e
  closed-end w e f d wants =
      ⊎_elim (λ is. is) (λ will. absurd (omega (arith, will.1.0, will.1.1)))
      (closed-wanted g w ([], refl) (λ x y its gone step. absurd (gone (event_of y its))) e f wants (λ here. omega (arith, here.0, here.1)) d)
    where
      event_of : (y : Place) → IsWanted w y → IsEvent (chart_of g) y
      event_of y (send q is le) = IsEvent-from_passes (chart_of g) (is_send_to q) y is
      event_of y (receive q is le) = IsEvent-from_passes (chart_of g) (is_receive_from q) y is
