-- Which send a receive belongs to: only one, and an earlier receive from the same sender belongs to an earlier send.
use Rattle.std.proofs.Common.{◌≡◌, ℕ, Bool, true, Some, refl, sym, ap, ◌∙◌, subst, arith, eqb-true}
use Rattle.std.proofs.lemmas.Option.{same_Some}
use Rattle.std.proofs.lemmas.Bool.{false≢true}
use Rattle.chart.specs.declared.event.Event.{Event}
use Rattle.chart.specs.declared.event.Event.TheVariants.{Send, Receive}
use Rattle.chart.specs.Events.{is_send_to, is_receive_from, tally}
use Rattle.chart.specs.Charts.{Chart, Place, at, chart_event, IsSendTo, IsReceiveFrom, BelongsTo}
use Rattle.chart.specs.Places.{IsEvent}
use Rattle.chart.specs.Order.{IsEarlier}
use Rattle.chart.proofs.Tally.{Passes, ith_within, tally-lt, same_from_tally, tally_reached}

-- places with the same parts are one
pub same_place : (e f : Place) → e.instance ≡ f.instance → e.index ≡ f.index → e ≡ f
same_place e f p q = ap (λ x. at x e.index) p ∙ ap (λ x. at f.instance x) q

-- a place with an event at it is one of the chart
pub IsEvent-from_event : (c : Chart) (e : Place) (m : Event) → chart_event c e ≡ Some m → IsEvent c e
IsEvent-from_event c e m h = ith_within (c e.instance) e.index m h

-- a place whose event passes a test has an event
pub IsEvent-from_passes : (c : Chart) (test : Event → Bool) (e : Place) → Passes test (c e.instance) e.index → IsEvent c e
IsEvent-from_passes c test e (m, h, t) = ith_within (c e.instance) e.index m h

-- no event is a send and a receive
pub not_both : (c : Chart) (q a : ℕ) (e : Place) → IsSendTo c q e → IsReceiveFrom c a e → ⊥
not_both c q a e (m, h, s) (n, g, r) = event_not_both n (subst (λ x. is_send_to q x ≡ true) (same_Some m n (sym h ∙ g)) s) r
  where
    event_not_both : (x : Event) → is_send_to q x ≡ true → is_receive_from a x ≡ true → ⊥
    event_not_both (Send to name) yes' no' = false≢true no'
    event_not_both (Receive from name region) yes' no' = false≢true yes'

-- a receive is from one sender
pub one_sender : (c : Chart) (a b : ℕ) (e : Place) → IsReceiveFrom c a e → IsReceiveFrom c b e → a ≡ b
one_sender c a b e (m, h, s) (n, g, r) = sender n (subst (λ x. is_receive_from a x ≡ true) (same_Some m n (sym h ∙ g)) s) r
  where
    sender : (x : Event) → is_receive_from a x ≡ true → is_receive_from b x ≡ true → a ≡ b
    sender (Send to name) from_a from_b = absurd (false≢true from_a)
    sender (Receive from name region) from_a from_b = sym (eqb-true from a from_a) ∙ eqb-true from b from_b

-- a send is to one receiver
pub one_receiver : (c : Chart) (a b : ℕ) (e : Place) → IsSendTo c a e → IsSendTo c b e → a ≡ b
one_receiver c a b e (m, h, s) (n, g, r) = receiver n (subst (λ x. is_send_to a x ≡ true) (same_Some m n (sym h ∙ g)) s) r
  where
    receiver : (x : Event) → is_send_to a x ≡ true → is_send_to b x ≡ true → a ≡ b
    receiver (Send to name) to_a to_b = sym (eqb-true to a to_a) ∙ eqb-true to b to_b
    receiver (Receive from name region) to_a to_b = absurd (false≢true to_a)

-- a receive belongs to one send
pub same_send : (c : Chart) (s t r : Place) → BelongsTo c s r → BelongsTo c t r → s ≡ t
same_send c s t r b d =
    let line = one_sender c s.instance t.instance r b.received d.received in
    let moved = subst (λ x. BelongsTo c (at x s.index) r) line b in
    same_place s t line (same_from_tally (is_send_to r.instance) (c t.instance) s.index t.index moved.sent d.sent (moved.turn ∙ sym d.turn))

-- one receive belongs to a send
pub same_receive : (c : Chart) (s q r : Place) → BelongsTo c s q → BelongsTo c s r → q ≡ r
same_receive c s q r b d =
    let line = one_receiver c q.instance r.instance s b.sent d.sent in
    let moved = subst (λ x. BelongsTo c s (at x q.index)) line b in
    same_place q r line (same_from_tally (is_receive_from s.instance) (c r.instance) q.index r.index moved.received d.received (sym moved.turn ∙ d.turn))

-- an earlier receive from the same sender belongs to an earlier send
pub earlier_send : (c : Chart) (s r d : Place) → BelongsTo c s r → IsEarlier d r → IsReceiveFrom c s.instance d → (t : Place) × BelongsTo c t d × IsEarlier t s
earlier_send c s r d b l from =
    let to_r = is_send_to r.instance in
    let from_s = is_receive_from s.instance in
    let passes : Passes from_s (c r.instance) d.index = subst (λ x. Passes from_s (c x) d.index) l.line from in
    let more = tally-lt from_s (c r.instance) 0 d.index l.begun passes in
    let fewer = tally-lt from_s (c r.instance) d.index r.index l.less b.received in
    let turn = b.turn in
    let found = tally_reached to_r (c s.instance) (tally from_s (c r.instance) d.index) s.index (omega arith) (omega arith) in
    let t : Place = at s.instance found.0 in
    let mine : BelongsTo c t (at r.instance d.index) = record { sent = found.2; received = passes; turn = found.3 } in
    let differs : found.0 ≡ s.index → ⊥ = λ e. let same = ap (tally to_r (c s.instance)) e in omega (arith, same, found.3) in (
      t,
      subst (λ x. BelongsTo c t (at x d.index)) (sym l.line) mine,
      record {
        line = refl;
        begun = (IsEvent-from_passes c to_r t found.2).0;
        less = omega (arith, found.1, differs);
      },
    )

-- an event that is earlier than an earlier one is earlier
pub IsEarlier-trans : (d e f : Place) → IsEarlier d e → IsEarlier e f → IsEarlier d f
IsEarlier-trans d e f l m = record { line = l.line ∙ m.line; begun = l.begun; less = omega arith }
