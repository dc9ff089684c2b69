-- What is enforced in a chart with one message more: of old events what was, and what the message adds.
use Rattle.std.proofs.Common.{◌≡◌, ℕ, ◌+◌, ◌<◌, ◌≤◌, ◌⊎◌, inl, inr, refl, sym, ap, ◌∙◌, subst, subst₂, arith}
use Rattle.std.proofs.lemmas.Bool.{cases_lt}
use Rattle.chart.specs.Events.{tally, is_send_to, is_receive_from}
use Rattle.chart.specs.Charts.{Chart, Place, at, IsSendTo, IsReceiveFrom, BelongsTo}
use Rattle.chart.specs.Order.{IsEarlier, Direct, Before, IsCyclic}
use Rattle.chart.specs.Order.Direct.{message, to_send, same_sender}
use Rattle.chart.specs.Order.Before.{direct, through}
use Rattle.chart.specs.Knowing.{IsUpTo}
use Rattle.chart.specs.Places.{IsEvent}
use Rattle.chart.proofs.Tally.{ith_at, tally-le, tally-lt}
use Rattle.chart.proofs.Belongs.{same_place, not_both, one_sender, same_send, same_receive}
use Rattle.chart.proofs.Chains.{Chain, chain_of, before_of, before_events, before_later_send}
use Rattle.chart.proofs.Chains.Chain.{only, then}
use Rattle.repair.specs.Messages.{NewMessage, IsWith, new_send, new_receive, keeping, moved_index, moved}
use Rattle.repair.proofs.Lines.{from_grown, moved_same, moved_other, moved_cases}
use Rattle.repair.proofs.Moving.{keeping_sender, keeping_receiver, line_grown, new_on, moved_send, moved_receive, moved_earlier, IsInTurn, belongs_of, was_kept}

-- what is up to an event that is up to another
pub up_up : (c : Chart) (a b e : Place) → IsUpTo c b a → IsUpTo c a e → IsUpTo c b e
up_up c a b e (inl same) up = subst (λ x. IsUpTo c x e) same up
up_up c a b e (inr before) (inl same) = inr (subst (λ x. Before c x b) (sym same) before)
up_up c a b e (inr before) (inr sooner) = inr (through sooner before)

-- what is up to an event before another
pub up_before : (c : Chart) (a b e : Place) → Before c a b → IsUpTo c a e → Before c e b
up_before c a b e before (inl same) = subst (λ x. Before c x b) (sym same) before
up_before c a b e before (inr sooner) = through sooner before

-- what is before an event up to another
pub before_up : (c : Chart) (a b e : Place) → IsUpTo c b a → Before c e a → Before c e b
before_up c a b e (inl same) before = subst (λ x. Before c e x) same before
before_up c a b e (inr later) before = through before later

-- the event is up to one that the sender does before the new send
abbrev pub IsInformed : NewMessage → Chart → Place → Type 0
IsInformed m c x = (i : ℕ) × (1 ≤ i) × (i ≤ m.sent) × IsUpTo c (at m.sender i) x

-- a send that the receiver makes after the new receive is up to the event
abbrev pub IsHeard : NewMessage → Chart → Place → Type 0
IsHeard m c y = (i : ℕ) × (q : ℕ) × (m.received < i) × IsSendTo c q (at m.receiver i) × IsUpTo c y (at m.receiver i)

-- the event is up to an old receive of the lane before the new one
abbrev IsSooner : NewMessage → Chart → Place → Type 0
IsSooner m c x = (i : ℕ) × (1 ≤ i) × (i ≤ m.received) × IsReceiveFrom c m.sender (at m.receiver i) × IsUpTo c (at m.receiver i) x

-- z of the new chart is after the old event x only by what was enforced, or by the new message
abbrev IsReached : NewMessage → Chart → Place → Place → Type 0
IsReached m c x z = ((y : Place) × (z ≡ moved m c y) × (Before c x y ⊎ (IsInformed m c x × IsHeard m c y)))
    ⊎ ((z ≡ new_send m) × IsInformed m c x) ⊎ ((z ≡ new_receive m) × (IsInformed m c x ⊎ IsSooner m c x))

-- what is before one that was informed of, heard or received sooner
informed_before : (m : NewMessage) (c : Chart) (x y : Place) → Before c x y → IsInformed m c y → IsInformed m c x
informed_before m c x y before (i, low, high, up) = (i, low, high, inr (before_up c y (at m.sender i) x up before))

heard_before : (m : NewMessage) (c : Chart) (x y : Place) → Before c x y → IsHeard m c x → IsHeard m c y
heard_before m c x y before (i, q, high, sends, up) = (i, q, high, sends, inr (up_before c x y (at m.receiver i) before up))

sooner_before : (m : NewMessage) (c : Chart) (x y : Place) → Before c x y → IsSooner m c y → IsSooner m c x
sooner_before m c x y before (i, low, high, from, up) = (i, low, high, from, inr (before_up c y (at m.receiver i) x up before))

reached_by : (m : NewMessage) (c : Chart) (x y z : Place) → Before c x y ⊎ (IsInformed m c x × IsHeard m c y) → IsReached m c y z → IsReached m c x z
reached_by m c x y z (inl before) (inl (t, is, inl on)) = inl (t, is, inl (through before on))
reached_by m c x y z (inl before) (inl (t, is, inr (informed, heard))) = inl (t, is, inr (informed_before m c x y before informed, heard))
reached_by m c x y z (inl before) (inr (inl (is, informed))) = inr (inl (is, informed_before m c x y before informed))
reached_by m c x y z (inl before) (inr (inr (is, inl informed))) = inr (inr (is, inl (informed_before m c x y before informed)))
reached_by m c x y z (inl before) (inr (inr (is, inr sooner))) = inr (inr (is, inr (sooner_before m c x y before sooner)))
reached_by m c x y z (inr both) (inl (t, is, inl on)) = inl (t, is, inr (both.0, heard_before m c y t on both.1))
reached_by m c x y z (inr both) (inl (t, is, inr (informed, heard))) = inl (t, is, inr (both.0, heard))
reached_by m c x y z (inr both) (inr (inl (is, informed))) = inr (inl (is, both.0))
reached_by m c x y z (inr both) (inr (inr (is, more))) = inr (inr (is, inl both.0))

module _ (m : NewMessage) (c d : Chart) (w : IsWith m c d) (turn : IsInTurn m c d w) where
  -- the new message in the new chart
  new_belongs : BelongsTo d (new_send m) (new_receive m)
  new_belongs = belongs_of m c d w turn

  send_receives_not : (q : ℕ) → IsReceiveFrom d q (new_send m) → ⊥
  send_receives_not q from = not_both d m.receiver q (new_send m) new_belongs.sent from

  receive_sends_not : (q : ℕ) → IsSendTo d q (new_receive m) → ⊥
  receive_sends_not q sends = not_both d q m.sender (new_receive m) sends new_belongs.received

  -- no old event has come to one of its places
  moved_no_send : (x : Place) → moved m c x ≡ new_send m → ⊥
  moved_no_send x same =
      let line = ap (λ z. z.instance) same in
      let k = ap (keeping m c) line ∙ keeping_sender m c in
      moved_other m.sent x.index (ap (λ a. moved_index a x.index) (sym k) ∙ ap (λ z. z.index) same)

  moved_no_receive : (x : Place) → moved m c x ≡ new_receive m → ⊥
  moved_no_receive x same =
      let line = ap (λ z. z.instance) same in
      let k = ap (keeping m c) line ∙ keeping_receiver m c w.two in
      moved_other m.received x.index (ap (λ a. moved_index a x.index) (sym k) ∙ ap (λ z. z.index) same)

  -- and no two to one
  pub moved_apart : (x y : Place) → moved m c x ≡ moved m c y → x ≡ y
  moved_apart x y same =
      let line = ap (λ z. z.instance) same in
      let k = ap (keeping m c) line in
      same_place x y line (moved_same (keeping m c y.instance) x.index y.index (ap (λ a. moved_index a x.index) (sym k) ∙ ap (λ z. z.index) same))

  -- an event of the new chart is an old one, or the message's
  abbrev pub IsOneOf : Place → Type 0
  IsOneOf z = ((y : Place) × (1 ≤ y.index) × (z ≡ moved m c y)) ⊎ (z ≡ new_send m) ⊎ (z ≡ new_receive m)

  pub one_of : (z : Place) → IsEvent d z → IsOneOf z
  one_of z here =
      let x = ith_at (d z.instance) z.index here.0 here.1 in
      elim (from_grown (c z.instance) (d z.instance) (keeping m c z.instance) z.index x.0 (line_grown m c d w z.instance) x.1) [
        | inl old ↦ inl (at z.instance old.0, old.1, same_place z (moved m c (at z.instance old.0)) refl old.2)
        | inr new ↦
            elim (new_on m c d w z.instance new.1.0 new.1.1) [
              | inl v ↦ inr (inl (same_place z (new_send m) v.0 (new.0 ∙ ap (λ k. k + 1) (ap (keeping m c) v.0 ∙ keeping_sender m c))))
              | inr v ↦ inr (inr (same_place z (new_receive m) v.0 (new.0 ∙ ap (λ k. k + 1) (ap (keeping m c) v.0 ∙ keeping_receiver m c w.two))))
            ]
      ]

  -- an old event earlier than the new send, and one later; of the new receive too
  before_new_send : (x : Place) → IsEarlier (moved m c x) (new_send m) → (1 ≤ x.index) × (x.instance ≡ m.sender) × (x.index ≤ m.sent)
  before_new_send x l =
      let k = ap (keeping m c) l.line ∙ keeping_sender m c in
      let less = l.less in
      let begun = l.begun in
      elim (moved_cases (keeping m c x.instance) x.index) [
        | inl v ↦ (omega (arith, v.1), l.line, omega (arith, v.0, k))
        | inr v ↦ (omega (arith, v.0), l.line, omega (arith, v.1))
      ]

  before_new_receive : (x : Place) → IsEarlier (moved m c x) (new_receive m) → (1 ≤ x.index) × (x.instance ≡ m.receiver) × (x.index ≤ m.received)
  before_new_receive x l =
      let k = ap (keeping m c) l.line ∙ keeping_receiver m c w.two in
      let less = l.less in
      let begun = l.begun in
      elim (moved_cases (keeping m c x.instance) x.index) [
        | inl v ↦ (omega (arith, v.1), l.line, omega (arith, v.0, k))
        | inr v ↦ (omega (arith, v.0), l.line, omega (arith, v.1))
      ]

  after_new_send : (x : Place) → IsEarlier (new_send m) (moved m c x) → (m.sender ≡ x.instance) × (m.sent < x.index)
  after_new_send x l =
      let k = ap (keeping m c) (sym l.line) ∙ keeping_sender m c in
      let less = l.less in
      elim (moved_cases (keeping m c x.instance) x.index) [
        | inl v ↦ (l.line, omega (arith, v, k))
        | inr v ↦ (l.line, omega (arith, v.1))
      ]

  after_new_receive : (x : Place) → IsEarlier (new_receive m) (moved m c x) → (m.receiver ≡ x.instance) × (m.received < x.index)
  after_new_receive x l =
      let k = ap (keeping m c) (sym l.line) ∙ keeping_receiver m c w.two in
      let less = l.less in
      elim (moved_cases (keeping m c x.instance) x.index) [
        | inl v ↦ (l.line, omega (arith, v, k))
        | inr v ↦ (l.line, omega (arith, v.1))
      ]

  -- a step from an old event
  from_old : (x z : Place) → IsOneOf z → Direct d (moved m c x) z → IsReached m c x z
  from_old x z (inl (t, low, is)) (message b) = inl (t, is, inl (direct (message (was_kept m c d w turn x t (subst (BelongsTo d (moved m c x)) is b)))))
  from_old x z (inl (t, low, is)) (to_send q l s) = inl (t, is, inl (direct (to_send q (moved_earlier m c d w x t (subst (IsEarlier (moved m c x)) is l)) (moved_send m c d w q t (subst (IsSendTo d q) is s)))))
  from_old x z (inl (t, low, is)) (same_sender q l a b) = inl (t, is, inl (direct (same_sender q (moved_earlier m c d w x t (subst (IsEarlier (moved m c x)) is l)) (moved_receive m c d w q x a) (moved_receive m c d w q t (subst (IsReceiveFrom d q) is b)))))
  from_old x z (inr (inl is)) (message b) = absurd (send_receives_not x.instance (subst (IsReceiveFrom d x.instance) is b.received))
  from_old x z (inr (inl is)) (to_send q l s) =
      let v = before_new_send x (subst (IsEarlier (moved m c x)) is l) in
      inr (inl (is, (x.index, v.0, v.2, inl (same_place x (at m.sender x.index) v.1 refl))))
  from_old x z (inr (inl is)) (same_sender q l a b) = absurd (send_receives_not q (subst (IsReceiveFrom d q) is b))
  from_old x z (inr (inr is)) (message b) = absurd (moved_no_send x (same_send d (moved m c x) (new_send m) (new_receive m) (subst (BelongsTo d (moved m c x)) is b) new_belongs))
  from_old x z (inr (inr is)) (to_send q l s) = absurd (receive_sends_not q (subst (IsSendTo d q) is s))
  from_old x z (inr (inr is)) (same_sender q l a b) =
      let v = before_new_receive x (subst (IsEarlier (moved m c x)) is l) in
      let q_is = one_sender d q m.sender (new_receive m) (subst (IsReceiveFrom d q) is b) new_belongs.received in
      let here = same_place x (at m.receiver x.index) v.1 refl in
      let from = subst₂ (λ p y. IsReceiveFrom c p y) q_is here (moved_receive m c d w q x a) in
      inr (inr (is, inr (x.index, v.0, v.2, from, inl here)))

  -- a step from the new send
  from_send : (x z : Place) → IsOneOf z → IsInformed m c x → Direct d (new_send m) z → IsReached m c x z
  from_send x z (inl (t, low, is)) informed (message b) = absurd (moved_no_receive t (same_receive d (new_send m) (moved m c t) (new_receive m) (subst (BelongsTo d (new_send m)) is b) new_belongs))
  from_send x z (inl (t, low, is)) informed (to_send q l s) =
      let v = after_new_send t (subst (IsEarlier (new_send m)) is l) in
      let sends = moved_send m c d w q t (subst (IsSendTo d q) is s) in
      inl (t, is, inl (before_later_send c q x (at m.sender informed.0) t informed.3 (record { line = v.0; begun = informed.1; less = omega (arith, informed.2, v.1) }) sends))
  from_send x z (inr (inl is)) informed (message b) = absurd (send_receives_not m.sender (subst (IsReceiveFrom d m.sender) is b.received))
  from_send x z (inr (inl is)) informed (to_send q l s) = let same = ap (λ y. y.index) is in let less = l.less in absurd (omega (arith, less, same))
  from_send x z (inr (inr is)) informed (message b) = inr (inr (is, inl informed))
  from_send x z (inr (inr is)) informed (to_send q l s) = absurd (receive_sends_not q (subst (IsSendTo d q) is s))
  from_send x z one informed (same_sender q l a b) = absurd (send_receives_not q a)

  -- each old receive has a send
  module _ (sent : (q : ℕ) (r : Place) → IsReceiveFrom c q r → (s : Place) × BelongsTo c s r) where
    -- what was informed of is before an old receive of the lane after the new one
    informed_receives : (x t : Place) → IsInformed m c x → m.receiver ≡ t.instance → m.received < t.index → IsReceiveFrom c m.sender t → Before c x t
    informed_receives x t informed line later from =
        let s = sent m.sender t from in
        let on = one_sender c s.0.instance m.sender t s.1.received from in
        let here = same_place t (at m.receiver t.index) (sym line) refl in
        let b = subst₂ (λ p y. BelongsTo c (at p s.0.index) y) on here s.1 in
        let more = tally-lt (is_receive_from m.sender) (c m.receiver) m.received t.index later b.received in
        let beyond : m.sent < s.0.index = after s.0.index (omega (arith, more, b.turn, turn)) in
        let up = before_later_send c m.receiver x (at m.sender informed.0) (at m.sender s.0.index) informed.3 (record { line = refl; begun = informed.1; less = omega (arith, informed.2, beyond) }) b.sent in
        subst (Before c x) (sym here) (through up (direct (message b)))
      where
        after : (i : ℕ) → tally (is_send_to m.receiver) (c m.sender) m.sent < tally (is_send_to m.receiver) (c m.sender) i → m.sent < i
        after i more = elim (cases_lt m.sent i) [ inl less ↦ less | inr le ↦ let l = tally-le (is_send_to m.receiver) (c m.sender) i m.sent le in absurd (omega arith) ]

    -- a step from the new receive
    from_receive : (x z : Place) → IsOneOf z → IsInformed m c x ⊎ IsSooner m c x → Direct d (new_receive m) z → IsReached m c x z
    from_receive x z one so (message b) = absurd (receive_sends_not z.instance b.sent)
    from_receive x z (inl (t, low, is)) so (to_send q l s) =
        let v = after_new_receive t (subst (IsEarlier (new_receive m)) is l) in
        let sends = moved_send m c d w q t (subst (IsSendTo d q) is s) in
        let here = same_place t (at m.receiver t.index) (sym v.0) refl in
        elim so [
          | inl informed ↦ inl (t, is, inr (informed, (t.index, q, v.1, subst (IsSendTo c q) here sends, inl (sym here))))
          | inr sooner ↦ inl (t, is, inl (before_later_send c q x (at m.receiver sooner.0) t sooner.4 (record { line = v.0; begun = sooner.1; less = omega (arith, sooner.2, v.1) }) sends))
        ]
    from_receive x z (inl (t, low, is)) so (same_sender q l a b) =
        let v = after_new_receive t (subst (IsEarlier (new_receive m)) is l) in
        let q_is = one_sender d q m.sender (new_receive m) a new_belongs.received in
        let from = subst (λ p. IsReceiveFrom c p t) q_is (moved_receive m c d w q t (subst (IsReceiveFrom d q) is b)) in
        elim so [
          | inl informed ↦ inl (t, is, inl (informed_receives x t informed v.0 v.1 from))
          | inr sooner ↦ inl (t, is, inl (up_before c (at m.receiver sooner.0) t x (direct (same_sender m.sender (record { line = v.0; begun = sooner.1; less = omega (arith, sooner.2, v.1) }) sooner.3 from)) sooner.4))
        ]
    from_receive x z (inr (inl is)) so (to_send q l s) = absurd (w.two (sym (l.line ∙ ap (λ y. y.instance) is)))
    from_receive x z (inr (inl is)) so (same_sender q l a b) = absurd (send_receives_not q (subst (IsReceiveFrom d q) is b))
    from_receive x z (inr (inr is)) so (to_send q l s) = absurd (receive_sends_not q (subst (IsSendTo d q) is s))
    from_receive x z (inr (inr is)) so (same_sender q l a b) = let same = ap (λ y. y.index) is in let less = l.less in absurd (omega (arith, less, same))

    -- what is after what was reached
    step_on : (x y z : Place) → IsReached m c x y → IsEvent d z → Direct d y z → IsReached m c x z
    step_on x y z (inl (t, is, so)) here step = reached_by m c x t z so (from_old t z (one_of z here) (subst (λ a. Direct d a z) is step))
    step_on x y z (inr (inl (is, informed))) here step = from_send x z (one_of z here) informed (subst (λ a. Direct d a z) is step)
    step_on x y z (inr (inr (is, so))) here step = from_receive x z (one_of z here) so (subst (λ a. Direct d a z) is step)

    reached_on : {y z : Place} → Before d y z → (x : Place) → IsReached m c x y → IsReached m c x z
    reached_on {y = y} {z = z} (direct step) x reached = step_on x y z reached (before_events (direct step)).1 step
    reached_on (through a b) x reached = reached_on b x (reached_on a x reached)

    reached_from : {y z : Place} → Before d y z → (x : Place) → y ≡ moved m c x → IsReached m c x z
    reached_from {y = y} {z = z} (direct step) x is = from_old x z (one_of z (before_events (direct step)).1) (subst (λ a. Direct d a z) is step)
    reached_from (through a b) x is = reached_on b x (reached_from a x is)

    -- of old events is enforced what was, and what the message adds
    pub was_before : (x y : Place) → Before d (moved m c x) (moved m c y) → Before c x y ⊎ (IsInformed m c x × IsHeard m c y)
    was_before x y before = elim (reached_from before x refl) [
      | inl v ↦ subst (λ t. Before c x t ⊎ (IsInformed m c x × IsHeard m c t)) (sym (moved_apart y v.0 v.1)) v.2
      | inr (inl v) ↦ absurd (moved_no_send y v.0)
      | inr (inr v) ↦ absurd (moved_no_receive y v.0)
    ]

    -- Where no event is informed of and heard, and nothing was before itself, nothing is.
    module _ (free : IsCyclic c → ⊥) (uncrossed : (x : Place) → IsInformed m c x → IsHeard m c x → ⊥) where
      no_old_cycle : (x z : Place) → z ≡ moved m c x → Before d z z → ⊥
      no_old_cycle x z is before = elim (was_before x x (subst (λ a. Before d a a) is before)) [
        | inl old ↦ free (x, old)
        | inr v ↦ uncrossed x v.0 v.1
      ]

      -- no step leads from one of the message's events to its send, and none from its receive to it
      no_step_to_send : (y : Place) → (y ≡ new_send m) ⊎ (y ≡ new_receive m) → Direct d y (new_send m) → ⊥
      no_step_to_send y so (message b) = send_receives_not y.instance b.received
      no_step_to_send y (inl is) (to_send q l s) = let same = ap (λ a. a.index) is in let less = l.less in omega (arith, less, same)
      no_step_to_send y (inr is) (to_send q l s) = w.two (sym (ap (λ a. a.instance) (sym is) ∙ l.line))
      no_step_to_send y so (same_sender q l a b) = send_receives_not q b

      no_step_to_receive : (y : Place) → y ≡ new_receive m → Direct d y (new_receive m) → ⊥
      no_step_to_receive y is (message b) = receive_sends_not m.receiver (subst (IsSendTo d m.receiver) is b.sent)
      no_step_to_receive y is (to_send q l s) = receive_sends_not q s
      no_step_to_receive y is (same_sender q l a b) = let same = ap (λ z. z.index) is in let less = l.less in omega (arith, less, same)

      no_send_cycle : (z : Place) → Chain d (new_send m) z → z ≡ new_send m → ⊥
      no_send_cycle z (only s) is = no_step_to_send (new_send m) (inl refl) (subst (Direct d (new_send m)) is s)
      no_send_cycle z (then {d = y} x s) is =
          let step = subst (Direct d y) is s in
          let before = before_of x in
          elim (one_of y (before_events before).1) [
            | inl old ↦ no_old_cycle old.0 y old.2 (through (direct step) before)
            | inr new ↦ no_step_to_send y new step
          ]

      no_receive_cycle : (z : Place) → Chain d (new_receive m) z → z ≡ new_receive m → ⊥
      no_receive_cycle z (only s) is = no_step_to_receive (new_receive m) refl (subst (Direct d (new_receive m)) is s)
      no_receive_cycle z (then {d = y} x s) is =
          let step = subst (Direct d y) is s in
          let before = before_of x in
          elim (one_of y (before_events before).1) [
            | inl old ↦ no_old_cycle old.0 y old.2 (through (direct step) before)
            | inr (inl new) ↦ no_send_cycle (new_send m) (chain_of (through (direct (subst (λ a. Direct d a (new_receive m)) new step)) (subst (Before d (new_receive m)) new before))) refl
            | inr (inr new) ↦ no_step_to_receive y new step
          ]

      pub no_cycle : IsCyclic d → ⊥
      no_cycle (z, before) = elim (one_of z (before_events before).0) [
        | inl old ↦ no_old_cycle old.0 z old.2 before
        | inr (inl is) ↦ no_send_cycle (new_send m) (chain_of (subst (λ a. Before d a a) is before)) refl
        | inr (inr is) ↦ no_receive_cycle (new_receive m) (chain_of (subst (λ a. Before d a a) is before)) refl
      ]
