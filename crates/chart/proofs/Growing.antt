-- What later events leave as it is: places, belonging, the enforced order, what is known, reports and what is heard.
use Rattle.std.proofs.Common.{◌≡◌, ℕ, ◌≤◌, inl, inr, Bool, false, List, ◌++◌, length, sym, ap, ◌∙◌, subst, arith, length-append}
use Rattle.chart.specs.declared.event.Event.{Event}
use Rattle.chart.specs.Events.{ith, tally, is_send_to, is_receive_from, is_in}
use Rattle.chart.specs.Charts.{Chart, Place, at, chart_event, IsReceiveFrom, BelongsTo}
use Rattle.chart.specs.Order.{IsEarlier, Direct, Before, IsReport, region_of_event}
use Rattle.chart.specs.Order.Direct.{message, to_send, same_sender}
use Rattle.chart.specs.Order.Before.{direct, through}
use Rattle.chart.specs.Knowing.{IsUpTo, IsKnown, IsGreatestHeard}
use Rattle.chart.proofs.Tally.{Passes, ith-append, tally-append}
use Rattle.chart.specs.Places.{IsEvent}
use Rattle.chart.proofs.Belongs.{IsEvent-from_event, IsEvent-from_passes, same_send}
use Rattle.chart.proofs.Chains.{Chain, chain_of, direct_events}
use Rattle.chart.proofs.Chains.Chain.{only, then}
use Rattle.chart.proofs.Counts.{count_agrees, count_further}
use Rattle.chart.proofs.Knowledge.{up_to_event}
use Rattle.chart.proofs.Reports.{IsReported}

-- each line of d is that of c, and further events
abbrev pub GrowsTo : Chart → Chart → Type 0
GrowsTo c d = (p : ℕ) → (more : List Event) × (d p ≡ c p ++ more)

-- each receive has its send
abbrev pub HasSends : Chart → Type 0
HasSends c = (q : ℕ) (r : Place) → IsReceiveFrom c q r → (s : Place) × BelongsTo c s r

module _ (c d : Chart) (grows : GrowsTo c d) where
  -- no line gets shorter
  length_grown : (p : ℕ) → length (c p) ≤ length (d p)
  length_grown p = let w = grows p in omega (arith, ap length w.1, length-append (c p) w.0)

  -- the events stay
  pub chart_event_grown : (e : Place) → IsEvent c e → chart_event d e ≡ chart_event c e
  chart_event_grown e here = let w = grows e.instance in ap (λ l. ith l e.index) w.1 ∙ ith-append (c e.instance) w.0 e.index here.1

  -- so do the counts up to them
  pub tally_grown : (test : Event → Bool) (e : Place) → IsEvent c e → tally test (d e.instance) e.index ≡ tally test (c e.instance) e.index
  tally_grown test e here = let w = grows e.instance in ap (λ l. tally test l e.index) w.1 ∙ tally-append test (c e.instance) w.0 e.index here.1

  -- an event that passed a test passes it
  pub passes_grown : (test : Event → Bool) (e : Place) → Passes test (c e.instance) e.index → Passes test (d e.instance) e.index
  passes_grown test e p = (p.0, chart_event_grown e (IsEvent-from_passes c test e p) ∙ p.1, p.2)

  -- an event of c that passes a test passed it before
  pub passes_shrunk : (test : Event → Bool) (e : Place) → IsEvent c e → Passes test (d e.instance) e.index → Passes test (c e.instance) e.index
  passes_shrunk test e here p = (p.0, sym (chart_event_grown e here) ∙ p.1, p.2)

  -- a receive belongs to the send that it belonged to
  pub belongs_grown : (s r : Place) → BelongsTo c s r → BelongsTo d s r
  belongs_grown s r b =
      let sent = IsEvent-from_passes c (is_send_to r.instance) s b.sent in
      let received = IsEvent-from_passes c (is_receive_from s.instance) r b.received in
      record {
        sent = passes_grown (is_send_to r.instance) s b.sent;
        received = passes_grown (is_receive_from s.instance) r b.received;
        turn = tally_grown (is_send_to r.instance) s sent ∙ b.turn ∙ sym (tally_grown (is_receive_from s.instance) r received);
      }

  -- a direct step stays
  direct_grown : (e f : Place) → Direct c e f → Direct d e f
  direct_grown e f (message b) = message (belongs_grown e f b)
  direct_grown e f (to_send q l s) = to_send q l (passes_grown (is_send_to q) f s)
  direct_grown e f (same_sender q l x y) = same_sender q l (passes_grown (is_receive_from q) e x) (passes_grown (is_receive_from q) f y)

  -- the order stays
  pub before_grown : {e f : Place} → Before c e f → Before d e f
  before_grown {e = e} {f = f} (direct s) = direct (direct_grown e f s)
  before_grown (through x y) = through (before_grown x) (before_grown y)

  module _ (sends : HasSends c) where
    -- a receive gets no other send
    pub belongs_shrunk : (s r : Place) → IsEvent c r → BelongsTo d s r → BelongsTo c s r
    belongs_shrunk s r here b =
        let w = sends s.instance r (passes_shrunk (is_receive_from s.instance) r here b.received) in
        subst (λ x. BelongsTo c x r) (same_send d w.0 s r (belongs_grown w.0 r w.1) b) w.1

    -- no new step leads to an event
    direct_shrunk : (e f : Place) → IsEvent c f → Direct d e f → Direct c e f
    direct_shrunk e f here (message b) = message (belongs_shrunk e f here b)
    direct_shrunk e f here (to_send q l s) = to_send q l (passes_shrunk (is_send_to q) f here s)
    direct_shrunk e f here (same_sender q l x y) = same_sender q l (passes_shrunk (is_receive_from q) e (x_event l) x) (passes_shrunk (is_receive_from q) f here y)
      where
        x_event : IsEarlier e f → IsEvent c e
        x_event m = (m.begun, subst (λ a. e.index ≤ length (c a)) (sym m.line) (omega (arith, m.less, here.1)))

    -- nothing new is before an event
    chain_shrunk : {e f : Place} → Chain d e f → IsEvent c f → Before c e f
    chain_shrunk {e = e} {f = f} (only x) here = direct (direct_shrunk e f here x)
    chain_shrunk {f = f} (then {d = g} x y) here =
        let step = direct_shrunk g f here y in
        through (chain_shrunk x (direct_events c g f step).0) (direct step)

    -- an event that is before another one of c was before it
    pub before_shrunk : (e f : Place) → IsEvent c f → Before d e f → Before c e f
    before_shrunk e f here before = chain_shrunk (chain_of before) here

    -- an event that is s or before it was so
    up_to_shrunk : (s e : Place) → IsEvent c s → IsUpTo d s e → IsUpTo c s e
    up_to_shrunk s e here (inl same) = inl same
    up_to_shrunk s e here (inr before) = inr (before_shrunk e s here before)

    -- an event that is s or before it stays so
    up_to_grown : (s e : Place) → IsUpTo c s e → IsUpTo d s e
    up_to_grown s e (inl same) = inl same
    up_to_grown s e (inr before) = inr (before_grown before)

    -- an event knows what it knew
    pub known_grown : (s : Place) (p k : ℕ) → IsEvent c s → IsKnown c s p k → IsKnown d s p k
    known_grown s p k here known =
        count_further (λ j. IsUpTo d s (at p j)) (length (c p)) k (length (d p)) (length_grown p)
        (count_agrees (λ j. IsUpTo d s (at p j)) known (λ j low high. (up_to_grown s (at p j), up_to_shrunk s (at p j) here)))
        (λ j past up. let within = up_to_event c s (at p j) here (up_to_shrunk s (at p j) here up) in omega arith)

    -- a report stays a report
    pub report_grown : (r : Place) (xs : List ℕ) → IsEvent c r → IsReport c r xs → IsReport d r xs
    report_grown r xs here report = record {
      rising = report.rising;
      exact = λ j. (λ is_in_report. forth j ((report.exact j).0 is_in_report), λ w. (report.exact j).1 (back j w));
    }
      where
        forth : (j : ℕ) → IsReported c r j → IsReported d r j
        forth j (less, (m, at_j, outside), apart) =
            let within = IsEvent-from_event c (at r.instance j) m at_j in
            (less, (m, chart_event_grown (at r.instance j) within ∙ at_j, subst (λ x. is_in (region_of_event x) m ≡ false) (sym (chart_event_grown r here)) outside), λ before. apart (before_shrunk (at r.instance j) r here before))

        back : (j : ℕ) → IsReported d r j → IsReported c r j
        back j (less, (m, at_j, outside), apart) =
            let within : IsEvent c (at r.instance j) = ((IsEvent-from_event d (at r.instance j) m at_j).0, omega (arith, here.1)) in
            (less, (m, sym (chart_event_grown (at r.instance j) within) ∙ at_j, subst (λ x. is_in (region_of_event x) m ≡ false) (chart_event_grown r here) outside), λ before. apart (before_grown before))

    -- the greatest heard up to an event stays the greatest
    pub heard_grown : (p n q k : ℕ) → n ≤ length (c p) → IsGreatestHeard c p n q k → IsGreatestHeard d p n q k
    heard_grown p n q k within heard = record {
      each = λ l s le b.
          let here : IsEvent c (at p l) = ((IsEvent-from_passes d (is_receive_from s.instance) (at p l) b.received).0, omega arith) in
          let was = belongs_shrunk s (at p l) here b in
          let g = heard.each l s le was in
          (g.0, known_grown s q g.0 (IsEvent-from_passes c (is_send_to p) s was.sent) g.1, g.2);
      attained = elim heard.attained [
        | inl none ↦ inl none
        | inr w ↦ inr (w.0, w.1, w.2, belongs_grown w.1 (at p w.0) w.3, known_grown w.1 q k (IsEvent-from_passes c (is_send_to p) w.1 w.3.sent) w.4)
      ];
    }
