-- The events that are wanted for a receive are the receive, or before it.
use Rattle.std.proofs.Common.{◌≡◌, ℕ, ◌+◌, ◌-◌, ◌<◌, ◌≤◌, ◌⊎◌, inl, inr, ◌==◌, ◌||◌, nat_lt, Bool, true, false, cond, List, [], ◌∷◌, length, refl, sym, ◌∙◌, subst, arith, eqb-true}
use Rattle.std.proofs.lemmas.Bool.{cases_eq, or_cases, ltb-true, false≢true}
use Rattle.chart.specs.declared.history.Occurrence.{Occurrence}
use Rattle.chart.specs.declared.history.Occurrence.TheVariants.{Send, Receive, Close}
use Rattle.chart.specs.Messages.{Content}
use Rattle.chart.specs.Events.{is_send_to, is_receive_from, tally}
use Rattle.chart.specs.Histories.{sent, received, chart_of, IsLegal, Begins}
use Rattle.chart.specs.Charts.{Place, IsSendTo, IsReceiveFrom, BelongsTo}
use Rattle.chart.specs.Places.{IsEvent}
use Rattle.chart.specs.Order.Direct.{message, to_send, same_sender}
use Rattle.chart.proofs.Tally.{tally-lt}
use Rattle.chart.proofs.Belongs.{IsEvent-from_passes, same_place}
use Rattle.chart.proofs.Histories.{begins_onward}
use Rattle.reordering.specs.OtherRuns.Walks.{Wanted, first_wanted, raise, step, wanted, wants_receive, wants_send, with_receive, with_send}
use Rattle.reordering.specs.OtherRuns.OtherRuns.{DirectWithin, BeforeWithin}
use Rattle.reordering.specs.OtherRuns.OtherRuns.DirectWithin.{enforced, freed}
use Rattle.reordering.specs.OtherRuns.OtherRuns.BeforeWithin.{direct, through}
use Rattle.reordering.proofs.OtherRunsLemmas.Turns.{IsWithin}
use Rattle.reordering.proofs.OtherRunsLemmas.Turns.IsWithin.{send, receive}
use Rattle.reordering.proofs.OtherRunsLemmas.Past.{turn_from_place}
use Rattle.reordering.proofs.OtherRunsLemmas.Wanted.{raise-cases}
use Rattle.reordering.proofs.OtherRunsLemmas.Newest.{next_place, event_begun, newest_send, newest_receive, newest_there}

module _ (n k : ℕ) (g : List Occurrence) (legal : IsLegal n k g) (s r : Place) (belongs : BelongsTo (chart_of g) s r) where
  -- it is r, or before r
  abbrev pub IsUp : Place → Type 0
  IsUp e = (e ≡ r) ⊎ BeforeWithin k (chart_of g) e r

  up_before : (e f : Place) → DirectWithin k (chart_of g) e f → IsUp f → IsUp e
  up_before e f d (inl same) = inr (direct (subst (λ x. DirectWithin k (chart_of g) e x) same d))
  up_before e f d (inr before) = inr (through (direct d) before)

  -- so is a send with no later turn than a send of its lane, and a receive likewise
  up_send : (q : ℕ) (e f : Place) → IsSendTo (chart_of g) q e → IsSendTo (chart_of g) q f → e.instance ≡ f.instance → tally (is_send_to q) (chart_of g e.instance) e.index ≤ tally (is_send_to q) (chart_of g f.instance) f.index → IsUp f → IsUp e
  up_send q e f is last line le up =
      let low = IsEvent-from_passes (chart_of g) (is_send_to q) e is in
      let place = turn_from_place (is_send_to q) (chart_of g e.instance) e.index f.index is (subst (λ x. tally (is_send_to q) (chart_of g e.instance) e.index ≤ tally (is_send_to q) (chart_of g x) f.index) (sym line) le) in
      elim (cases_eq e.index f.index) [
        | inl same ↦ subst IsUp (sym (same_place e f line same)) up
        | inr differs ↦ up_before e f (enforced (to_send q (record { line = line; begun = low.0; less = omega (arith, place, differs) }) last)) up
      ]

  up_receive : (q : ℕ) (e f : Place) → IsReceiveFrom (chart_of g) q e → IsReceiveFrom (chart_of g) q f → e.instance ≡ f.instance → tally (is_receive_from q) (chart_of g e.instance) e.index ≤ tally (is_receive_from q) (chart_of g f.instance) f.index → IsUp f → IsUp e
  up_receive q e f is last line le up =
      let low = IsEvent-from_passes (chart_of g) (is_receive_from q) e is in
      let place = turn_from_place (is_receive_from q) (chart_of g e.instance) e.index f.index is (subst (λ x. tally (is_receive_from q) (chart_of g e.instance) e.index ≤ tally (is_receive_from q) (chart_of g x) f.index) (sym line) le) in
      elim (cases_eq e.index f.index) [
        | inl same ↦ subst IsUp (sym (same_place e f line same)) up
        | inr differs ↦ up_before e f (enforced (same_sender q (record { line = line; begun = low.0; less = omega (arith, place, differs) }) is last)) up
      ]

  -- all wanted events are r or before it, when the history h remains
  pub record IsSound (h : List Occurrence) (w : Wanted) : Type 0 where
    pub within : (e : Place) → IsWithin (chart_of g) w.sends w.receives e → IsUp e
    pub all : (e : Place) → w.all e.instance ≡ true → IsEvent (chart_of h) e → IsUp e

  -- less of the history remains
  sound-less : (h : List Occurrence) (x : Occurrence) (w : Wanted) → IsSound (x ∷ h) w → IsSound h w
  sound-less h x w sound = record { within = sound.within; all = λ e all here. sound.all e all (event_begun h (x ∷ h) (x ∷ [], refl) e here) }

  -- a send that is before r is wanted with the events directly before it
  sound-send : (h : List Occurrence) (a b : ℕ) (m : Content) (w : Wanted) → Begins (Send a b m ∷ h) g → IsSound h w → IsUp (next_place h a) → IsSound h (with_send k h a b w)
  sound-send h a b m w begins sound up = record { within = within; all = all }
    where
      its : IsSendTo (chart_of g) b (next_place h a)
      its = (newest_send h g a b m begins).0

      turn : tally (is_send_to b) (chart_of g a) (length (chart_of h a) + 1) ≡ length (sent h a b) + 1
      turn = (newest_send h g a b m begins).1

      before : (e : Place) → IsReceiveFrom (chart_of g) a e → b ≡ e.instance → tally (is_receive_from a) (chart_of g e.instance) e.index ≤ length (sent h a b) + 1 - k → IsUp e
      before e is line le =
          let some = tally-lt (is_receive_from a) (chart_of g e.instance) 0 e.index (IsEvent-from_passes (chart_of g) (is_receive_from a) e is).0 is in
          up_before e (next_place h a) (freed is (subst (λ x. IsSendTo (chart_of g) x (next_place h a)) line its) (subst (λ x. tally (is_receive_from a) (chart_of g e.instance) e.index + k ≤ tally (is_send_to x) (chart_of g a) (length (chart_of h a) + 1)) line (omega (arith, some, le, turn)))) up

      within : (e : Place) → IsWithin (chart_of g) (raise w.sends a b (length (sent h a b) + 1)) (raise w.receives a b (length (sent h a b) + 1 - k)) e → IsUp e
      within e (send q is le) = elim (raise-cases w.sends a b (length (sent h a b) + 1) e.instance q (tally (is_send_to q) (chart_of g e.instance) e.index) le) [
        | inl old ↦ sound.within e (send q is old)
        | inr new ↦
            let mine = subst (λ x. IsSendTo (chart_of g) x e) (sym new.1) is in
            up_send b e (next_place h a) mine its (sym new.0) (subst (λ x. tally (is_send_to x) (chart_of g e.instance) e.index ≤ tally (is_send_to b) (chart_of g a) (length (chart_of h a) + 1)) (sym new.1) (omega (arith, new.2, turn))) up
      ]
      within e (receive q is le) = elim (raise-cases w.receives a b (length (sent h a b) + 1 - k) q e.instance (tally (is_receive_from q) (chart_of g e.instance) e.index) le) [
        | inl old ↦ sound.within e (receive q is old)
        | inr new ↦ before e (subst (λ x. IsReceiveFrom (chart_of g) x e) (sym new.0) is) new.1 (subst (λ x. tally (is_receive_from x) (chart_of g e.instance) e.index ≤ length (sent h a b) + 1 - k) (sym new.0) new.2)
      ]

      all : (e : Place) → ((a == e.instance) || w.all e.instance) ≡ true → IsEvent (chart_of h) e → IsUp e
      all e one here = elim (or_cases (a == e.instance) (w.all e.instance) one) [
        | inl own ↦
            let line : e.instance ≡ a = sym (eqb-true a e.instance own) in
            let less = subst (λ x. e.index ≤ length (chart_of h x)) line here.1 in
            up_before e (next_place h a) (enforced (to_send b (record { line = line; begun = here.0; less = omega (arith, less) }) its)) up
        | inr old ↦ sound.all e old here
      ]

  -- and so is a receive
  sound-receive : (h : List Occurrence) (a b c : ℕ) (w : Wanted) → Begins (Receive a b c ∷ h) g → IsSound h w → IsUp (next_place h a) → IsSound h (with_receive h a b w)
  sound-receive h a b c w begins sound up = record { within = within; all = sound.all }
    where
      new_one : (t : Place) × BelongsTo (chart_of g) t (next_place h a) × (t.instance ≡ b) × (tally (is_send_to a) (chart_of g b) t.index ≡ received h b a + 1)
      new_one = newest_receive n k h g legal a b c begins

      its : IsReceiveFrom (chart_of g) b (next_place h a)
      its = subst (λ x. IsReceiveFrom (chart_of g) x (next_place h a)) new_one.2 new_one.1.received

      sends : tally (is_send_to a) (chart_of g new_one.0.instance) new_one.0.index ≡ received h b a + 1
      sends = subst (λ x. tally (is_send_to a) (chart_of g x) new_one.0.index ≡ received h b a + 1) (sym new_one.2) new_one.3

      receives : tally (is_receive_from b) (chart_of g a) (length (chart_of h a) + 1) ≡ received h b a + 1
      receives = subst (λ x. tally (is_receive_from x) (chart_of g a) (length (chart_of h a) + 1) ≡ received h b a + 1) new_one.2 (sym new_one.1.turn ∙ sends)

      within : (e : Place) → IsWithin (chart_of g) (raise w.sends b a (received h b a + 1)) (raise w.receives b a (received h b a + 1)) e → IsUp e
      within e (send q is le) = elim (raise-cases w.sends b a (received h b a + 1) e.instance q (tally (is_send_to q) (chart_of g e.instance) e.index) le) [
        | inl old ↦ sound.within e (send q is old)
        | inr new ↦
            let mine = subst (λ x. IsSendTo (chart_of g) x e) (sym new.1) is in
            up_send a e new_one.0 mine new_one.1.sent (sym new.0 ∙ sym new_one.2) (subst (λ x. tally (is_send_to x) (chart_of g e.instance) e.index ≤ tally (is_send_to a) (chart_of g new_one.0.instance) new_one.0.index) (sym new.1) (omega (arith, new.2, sends))) (up_before new_one.0 (next_place h a) (enforced (message new_one.1)) up)
      ]
      within e (receive q is le) = elim (raise-cases w.receives b a (received h b a + 1) q e.instance (tally (is_receive_from q) (chart_of g e.instance) e.index) le) [
        | inl old ↦ sound.within e (receive q is old)
        | inr new ↦
            let mine = subst (λ x. IsReceiveFrom (chart_of g) x e) (sym new.0) is in
            up_receive b e (next_place h a) mine its (sym new.1) (subst (λ x. tally (is_receive_from x) (chart_of g e.instance) e.index ≤ tally (is_receive_from b) (chart_of g a) (length (chart_of h a) + 1)) (sym new.0) (omega (arith, new.2, receives))) up
      ]

  -- one event
  sound-step : (h : List Occurrence) (x : Occurrence) (w : Wanted) → Begins (x ∷ h) g → IsSound (x ∷ h) w → IsSound h (step k h x w)
  sound-step h (Send a b m) w begins sound = go (wants_send h a b w) refl
    where
      its : IsSendTo (chart_of g) b (next_place h a)
      its = (newest_send h g a b m begins).0

      here : IsEvent (chart_of (Send a b m ∷ h)) (next_place h a)
      here = IsEvent-from_passes (chart_of (Send a b m ∷ h)) (is_send_to b) (next_place h a) (newest_send h (Send a b m ∷ h) a b m ([], refl)).0

      go : (wants : Bool) → wants_send h a b w ≡ wants → IsSound h (cond wants (with_send k h a b w) w)
      go true e = sound-send h a b m w begins (sound-less h (Send a b m) w sound) (elim (or_cases (w.all a) (nat_lt (length (sent h a b)) (w.sends a b)) e) [
        | inl all ↦ sound.all (next_place h a) all here
        | inr few ↦ sound.within (next_place h a) (send b its (omega (arith, ltb-true (length (sent h a b)) (w.sends a b) few, (newest_send h g a b m begins).1)))
      ])
      go false e = sound-less h (Send a b m) w sound
  sound-step h (Receive a b c) w begins sound = go (wants_receive h a b w) refl
    where
      new_one : (t : Place) × BelongsTo (chart_of g) t (next_place h a) × (t.instance ≡ b) × (tally (is_send_to a) (chart_of g b) t.index ≡ received h b a + 1)
      new_one = newest_receive n k h g legal a b c begins

      here : IsEvent (chart_of (Receive a b c ∷ h)) (next_place h a)
      here = newest_there n k h g legal a b c begins

      few_within : received h b a < w.receives b a → IsUp (next_place h a)
      few_within few =
          let mine = subst (λ x. IsReceiveFrom (chart_of g) x (next_place h a)) new_one.2 new_one.1.received in
          let sends = subst (λ x. tally (is_send_to a) (chart_of g x) new_one.0.index ≡ received h b a + 1) (sym new_one.2) new_one.3 in
          let receives = subst (λ x. tally (is_receive_from x) (chart_of g a) (length (chart_of h a) + 1) ≡ received h b a + 1) new_one.2 (sym new_one.1.turn ∙ sends) in
          sound.within (next_place h a) (receive b mine (omega (arith, few, receives)))

      go : (wants : Bool) → wants_receive h a b w ≡ wants → IsSound h (cond wants (with_receive h a b w) w)
      go true e = sound-receive h a b c w begins (sound-less h (Receive a b c) w sound) (elim (or_cases (w.all a) (nat_lt (received h b a) (w.receives b a)) e) [
        | inl all ↦ sound.all (next_place h a) all here
        | inr few ↦ few_within (ltb-true (received h b a) (w.receives b a) few)
      ])
      go false e = sound-less h (Receive a b c) w sound
  sound-step h (Close a b) w begins sound = sound-less h (Close a b) w sound

  -- all events
  sound-wanted : (h : List Occurrence) (w : Wanted) → Begins h g → IsSound h w → IsSound [] (wanted k h w)
  sound-wanted [] w begins sound = sound
  sound-wanted (x ∷ h) w begins sound = sound-wanted h (step k h x w) (begins_onward h (x ∷ h) g (x ∷ [], refl) begins) (sound-step h x w begins sound)

  -- what is wanted at first
  abbrev pub wanted_first : Wanted
  wanted_first = first_wanted s.instance r.instance (tally (is_receive_from s.instance) (chart_of g r.instance) r.index)

  sound-first : IsSound g wanted_first
  sound-first = record { within = within; all = λ e all here. absurd (false≢true all) }
    where
      within : (e : Place) → IsWithin (chart_of g) wanted_first.sends wanted_first.receives e → IsUp e
      within e (send q is le) =
          let some = tally-lt (is_send_to q) (chart_of g e.instance) 0 e.index (IsEvent-from_passes (chart_of g) (is_send_to q) e is).0 is in
          elim (raise-cases (λ a b. 0) s.instance r.instance (tally (is_receive_from s.instance) (chart_of g r.instance) r.index) e.instance q (tally (is_send_to q) (chart_of g e.instance) e.index) le) [
            | inl none ↦ absurd (omega (arith, some, none))
            | inr new ↦
                let mine = subst (λ x. IsSendTo (chart_of g) x e) (sym new.1) is in
                up_send r.instance e s mine belongs.sent (sym new.0) (subst (λ x. tally (is_send_to x) (chart_of g e.instance) e.index ≤ tally (is_send_to r.instance) (chart_of g s.instance) s.index) (sym new.1) (omega (arith, new.2, belongs.turn))) (up_before s r (enforced (message belongs)) (inl refl))
          ]
      within e (receive q is le) =
          let some = tally-lt (is_receive_from q) (chart_of g e.instance) 0 e.index (IsEvent-from_passes (chart_of g) (is_receive_from q) e is).0 is in
          elim (raise-cases (λ a b. 0) s.instance r.instance (tally (is_receive_from s.instance) (chart_of g r.instance) r.index) q e.instance (tally (is_receive_from q) (chart_of g e.instance) e.index) le) [
            | inl none ↦ absurd (omega (arith, some, none))
            | inr new ↦
                let mine = subst (λ x. IsReceiveFrom (chart_of g) x e) (sym new.0) is in
                up_receive s.instance e r mine belongs.received (sym new.1) (subst (λ x. tally (is_receive_from x) (chart_of g e.instance) e.index ≤ tally (is_receive_from s.instance) (chart_of g r.instance) r.index) (sym new.0) (omega (arith, new.2))) (inl refl)
          ]

  -- at the end
  pub sound : (e : Place) → IsWithin (chart_of g) (wanted k g wanted_first).sends (wanted k g wanted_first).receives e → IsUp e
  sound = (sound-wanted g wanted_first ([], refl) sound-first).within
