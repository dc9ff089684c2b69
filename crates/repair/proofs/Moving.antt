-- What one message more leaves of a chart's events: their places, which send a receive belongs to, and their order.
use Rattle.std.proofs.Common.{◌≡◌, ◌≢◌, ℕ, ◌+◌, ◌<◌, ◌≤◌, ◌↔◌, ◌==◌, ◌⊎◌, inl, inr, true, false, cond, length, refl, sym, ap, ◌∙◌, subst, subst₂, arith, eq-eqb}
use Rattle.std.specs.List.{insert}
use Rattle.std.proofs.lemmas.Bool.Decides.{eqb_tells}
use Rattle.std.proofs.lemmas.Option.{same_Some}
use Rattle.std.proofs.lemmas.List.Edits.{length-insert}
use Rattle.chart.specs.declared.event.Event.{Event}
use Rattle.chart.specs.Events.{ith, tally, is_send_to, is_receive_from, is_in, send_event, receive_event}
use Rattle.chart.specs.Charts.{Chart, Place, chart_event, IsSendTo, IsReceiveFrom, BelongsTo}
use Rattle.chart.specs.Order.{IsEarlier, Direct, Before, region_of_event}
use Rattle.chart.specs.Order.Direct.{message, to_send, same_sender}
use Rattle.chart.specs.Order.Before.{direct, through}
use Rattle.chart.proofs.Tally.{Passes, tally-le, tally-lt}
use Rattle.repair.specs.Messages.{NewMessage, IsWith, new_send, new_receive, keeping, moved_index, moved, IsRace}
use Rattle.repair.proofs.Lines.{IsGrown, ith-moved, tally-moved, ith-insert_at, tally-insert_below, tally-insert_above, moved_cases, moved-lt, lt-moved, moved_begun, begun_moved}

-- on which line how many events keep their numbers
pub keeping_sender : (m : NewMessage) (c : Chart) → keeping m c m.sender ≡ m.sent
keeping_sender m c = ap (λ b. cond {A = ℕ} b m.sent (cond (m.sender == m.receiver) m.received (length (c m.sender)))) (eq-eqb m.sender m.sender refl)

pub keeping_receiver : (m : NewMessage) (c : Chart) → m.sender ≢ m.receiver → keeping m c m.receiver ≡ m.received
keeping_receiver m c two = elim (eqb_tells m.receiver m.sender) [
  | inl w ↦ absurd (two (sym w.1))
  | inr w ↦
      ap (λ b. cond {A = ℕ} b m.sent (cond (m.receiver == m.receiver) m.received (length (c m.receiver)))) w.0
      ∙ ap (λ b. cond {A = ℕ} b m.received (length (c m.receiver))) (eq-eqb m.receiver m.receiver refl)
]

pub keeping_other : (m : NewMessage) (c : Chart) (p : ℕ) → p ≢ m.sender → p ≢ m.receiver → keeping m c p ≡ length (c p)
keeping_other m c p a b = elim (eqb_tells p m.sender) [
  | inl w ↦ absurd (a w.1)
  | inr w ↦
      elim (eqb_tells p m.receiver) [
        | inl v ↦ absurd (b v.1)
        | inr v ↦
            ap (λ b. cond {A = ℕ} b m.sent (cond (p == m.receiver) m.received (length (c p)))) w.0
            ∙ ap (λ b. cond {A = ℕ} b m.received (length (c p))) v.0
      ]
]

module _ (m : NewMessage) (c d : Chart) (w : IsWith m c d) where
  -- each line is as it was, or has the new event
  pub line_grown : (p : ℕ) → IsGrown (c p) (d p) (keeping m c p)
  line_grown p = by (eqb_tells p m.sender) (eqb_tells p m.receiver)
    where
      by : ((p == m.sender) ≡ true) × (p ≡ m.sender) ⊎ ((p == m.sender) ≡ false) × (p ≢ m.sender) → ((p == m.receiver) ≡ true) × (p ≡ m.receiver) ⊎ ((p == m.receiver) ≡ false) × (p ≢ m.receiver) → IsGrown (c p) (d p) (keeping m c p)
      by (inl a) b =
          subst (λ x. IsGrown (c x) (d x) (keeping m c x)) (sym a.1)
          (subst (IsGrown (c m.sender) (d m.sender)) (sym (keeping_sender m c)) (record { within = w.sent_within; is = inr (send_event m.receiver m.name, w.send) }))
      by (inr a) (inl b) =
          subst (λ x. IsGrown (c x) (d x) (keeping m c x)) (sym b.1)
          (subst (IsGrown (c m.receiver) (d m.receiver)) (sym (keeping_receiver m c w.two)) (record { within = w.received_within; is = inr (receive_event m.sender m.name m.region, w.receive) }))
      by (inr a) (inr b) =
          let k = keeping_other m c p a.1 b.1 in
          subst (IsGrown (c p) (d p)) (sym k) (record { within = omega arith; is = inl (w.others p a.1 b.1, refl) })

  -- an event that stands behind the first ones is the new send or the new receive
  abbrev IsNewOn : ℕ → Event → Type 0
  IsNewOn p y = ((p ≡ m.sender) × (y ≡ send_event m.receiver m.name)) ⊎ ((p ≡ m.receiver) × (y ≡ receive_event m.sender m.name m.region))

  pub new_on : (p : ℕ) (y : Event) → d p ≡ insert (c p) (keeping m c p) y → IsNewOn p y
  new_on p y is = by (eqb_tells p m.sender) (eqb_tells p m.receiver)
    where
      there : (k : ℕ) (x : Event) → k ≤ length (c p) → keeping m c p ≡ k → d p ≡ insert (c p) k x → y ≡ x
      there k x within e line =
          let a = ith-insert_at (c p) k y within in
          let b = ith-insert_at (c p) k x within in
          same_Some y x (sym a ∙ ap (λ l. ith l (k + 1)) (sym (is ∙ ap (λ i. insert (c p) i y) e) ∙ line) ∙ b)

      by : ((p == m.sender) ≡ true) × (p ≡ m.sender) ⊎ ((p == m.sender) ≡ false) × (p ≢ m.sender) → ((p == m.receiver) ≡ true) × (p ≡ m.receiver) ⊎ ((p == m.receiver) ≡ false) × (p ≢ m.receiver) → IsNewOn p y
      by (inl a) b = inl (
        a.1,
        there m.sent (send_event m.receiver m.name) (subst (λ x. m.sent ≤ length (c x)) (sym a.1) w.sent_within) (ap (keeping m c) a.1 ∙ keeping_sender m c)
            (subst (λ x. d x ≡ insert (c x) m.sent (send_event m.receiver m.name)) (sym a.1) w.send),
      )
      by (inr a) (inl b) = inr (
        b.1,
        there m.received (receive_event m.sender m.name m.region) (subst (λ x. m.received ≤ length (c x)) (sym b.1) w.received_within) (ap (keeping m c) b.1 ∙ keeping_receiver m c w.two)
            (subst (λ x. d x ≡ insert (c x) m.received (receive_event m.sender m.name m.region)) (sym b.1) w.receive),
      )
      by (inr a) (inr b) =
          let k = keeping_other m c p a.1 b.1 in
          let same = ap (λ l. length l) (sym (w.others p a.1 b.1) ∙ is) in
          absurd (omega (arith, same, length-insert (c p) (keeping m c p) y (omega (arith, k))))

  -- the event at a place
  pub event_moved : (e : Place) → chart_event d (moved m c e) ≡ chart_event c e
  event_moved e = ith-moved (c e.instance) (d e.instance) (keeping m c e.instance) e.index (line_grown e.instance)

  pub send_moved : (q : ℕ) (e : Place) → IsSendTo c q e → IsSendTo d q (moved m c e)
  send_moved q e (x, here, sends) = (x, event_moved e ∙ here, sends)

  pub moved_send : (q : ℕ) (e : Place) → IsSendTo d q (moved m c e) → IsSendTo c q e
  moved_send q e (x, here, sends) = (x, sym (event_moved e) ∙ here, sends)

  pub receive_moved : (q : ℕ) (e : Place) → IsReceiveFrom c q e → IsReceiveFrom d q (moved m c e)
  receive_moved q e (x, here, receives) = (x, event_moved e ∙ here, receives)

  pub moved_receive : (q : ℕ) (e : Place) → IsReceiveFrom d q (moved m c e) → IsReceiveFrom c q e
  moved_receive q e (x, here, receives) = (x, sym (event_moved e) ∙ here, receives)

  -- events of a line stay in order
  pub earlier_moved : (e f : Place) → IsEarlier e f → IsEarlier (moved m c e) (moved m c f)
  earlier_moved e f l = record {
    line = l.line;
    begun = moved_begun (keeping m c e.instance) e.index l.begun;
    less = subst (λ k. moved_index (keeping m c e.instance) e.index < moved_index k f.index) (ap (keeping m c) l.line) (moved-lt (keeping m c e.instance) e.index f.index l.less);
  }

  pub moved_earlier : (e f : Place) → IsEarlier (moved m c e) (moved m c f) → IsEarlier e f
  moved_earlier e f l = record {
    line = l.line;
    begun = begun_moved (keeping m c e.instance) e.index l.begun;
    less = lt-moved (keeping m c e.instance) e.index f.index (subst (λ k. moved_index (keeping m c e.instance) e.index < moved_index k f.index) (ap (keeping m c) (sym l.line)) l.less);
  }

  -- off its lane the new message counts nowhere
  send_fails : (p q : ℕ) → ((p ≡ m.sender) × (q ≡ m.receiver) → ⊥) → (y : Event) → d p ≡ insert (c p) (keeping m c p) y → is_send_to q y ≡ false
  send_fails p q off y is = by (new_on p y is)
    where
      by : IsNewOn p y → is_send_to q y ≡ false
      by (inl v) = ap (is_send_to q) v.1 ∙ elim (eqb_tells m.receiver q) [ inl same ↦ absurd (off (v.0, sym same.1)) | inr other ↦ other.0 ]
      by (inr v) = ap (is_send_to q) v.1

  receive_fails : (p q : ℕ) → ((p ≡ m.sender) × (q ≡ m.receiver) → ⊥) → (y : Event) → d q ≡ insert (c q) (keeping m c q) y → is_receive_from p y ≡ false
  receive_fails p q off y is = by (new_on q y is)
    where
      by : IsNewOn q y → is_receive_from p y ≡ false
      by (inl v) = ap (is_receive_from p) v.1
      by (inr v) = ap (is_receive_from p) v.1 ∙ elim (eqb_tells m.sender p) [ inl same ↦ absurd (off (sym same.1, v.0)) | inr other ↦ other.0 ]

  -- how many sends of its lane there are up to an event, and how many receives
  abbrev sends_in : Chart → ℕ → ℕ
  sends_in x i = tally (is_send_to m.receiver) (x m.sender) i

  abbrev receives_in : Chart → ℕ → ℕ
  receives_in x i = tally (is_receive_from m.sender) (x m.receiver) i

  sends_below : (i : ℕ) → i ≤ m.sent → sends_in d i ≡ sends_in c i
  sends_below i low = ap (λ l. tally (is_send_to m.receiver) l i) w.send ∙ tally-insert_below (is_send_to m.receiver) (c m.sender) m.sent _ i w.sent_within low

  sends_above : (i : ℕ) → m.sent ≤ i → sends_in d (i + 1) ≡ sends_in c i + 1
  sends_above i high = ap (λ l. tally (is_send_to m.receiver) l (i + 1)) w.send ∙ tally-insert_above (is_send_to m.receiver) (c m.sender) m.sent _ i w.sent_within high ∙ ap (λ b. sends_in c i + cond {A = ℕ} b 1 0) (eq-eqb m.receiver m.receiver refl)

  receives_below : (i : ℕ) → i ≤ m.received → receives_in d i ≡ receives_in c i
  receives_below i low = ap (λ l. tally (is_receive_from m.sender) l i) w.receive ∙ tally-insert_below (is_receive_from m.sender) (c m.receiver) m.received _ i w.received_within low

  receives_above : (i : ℕ) → m.received ≤ i → receives_in d (i + 1) ≡ receives_in c i + 1
  receives_above i high = ap (λ l. tally (is_receive_from m.sender) l (i + 1)) w.receive ∙ tally-insert_above (is_receive_from m.sender) (c m.receiver) m.received _ i w.received_within high ∙ ap (λ b. receives_in c i + cond {A = ℕ} b 1 0) (eq-eqb m.sender m.sender refl)

  -- as many messages of the lane were sent before the new send as were received before the new receive
  abbrev pub IsInTurn : Type 0
  IsInTurn = tally (is_send_to m.receiver) (c m.sender) m.sent ≡ tally (is_receive_from m.sender) (c m.receiver) m.received

  pub turn_of : BelongsTo d (new_send m) (new_receive m) → IsInTurn
  turn_of b = let t = b.turn in omega (arith, t, sends_above m.sent (omega arith), receives_above m.received (omega arith))

  pub belongs_of : IsInTurn → BelongsTo d (new_send m) (new_receive m)
  belongs_of turn = record {
    sent = (send_event m.receiver m.name, ap (λ l. ith l (m.sent + 1)) w.send ∙ ith-insert_at (c m.sender) m.sent _ w.sent_within, eq-eqb m.receiver m.receiver refl);
    received = (receive_event m.sender m.name m.region, ap (λ l. ith l (m.received + 1)) w.receive ∙ ith-insert_at (c m.receiver) m.received _ w.received_within, eq-eqb m.sender m.sender refl);
    turn = omega (arith, turn, sends_above m.sent (omega arith), receives_above m.received (omega arith));
  }

  -- the n-th receive is of the n-th send just where it was
  abbrev AreTurns : ℕ → ℕ → ℕ → ℕ → Type 0
  AreTurns p q i j = (tally (is_send_to q) (c p) i ≡ tally (is_receive_from p) (c q) j) ↔ (tally (is_send_to q) (d p) (moved_index (keeping m c p) i) ≡ tally (is_receive_from p) (d q) (moved_index (keeping m c q) j))

  lane_turns : IsInTurn → (i j : ℕ) → Passes (is_send_to m.receiver) (c m.sender) i → Passes (is_receive_from m.sender) (c m.receiver) j → AreTurns m.sender m.receiver i j
  lane_turns turn i j sends receives =
      subst₂ (λ k l. (sends_in c i ≡ receives_in c j) ↔ (sends_in d (moved_index k i) ≡ receives_in d (moved_index l j))) (sym (keeping_sender m c)) (sym (keeping_receiver m c w.two)) (by (moved_cases m.sent i) (moved_cases m.received j))
    where
      low_s : i ≤ m.sent → (sends_in d i ≡ sends_in c i) × (sends_in c i ≤ sends_in c m.sent)
      low_s low = (sends_below i low, tally-le (is_send_to m.receiver) (c m.sender) i m.sent low)

      high_s : m.sent < i → (sends_in d (i + 1) ≡ sends_in c i + 1) × (sends_in c m.sent < sends_in c i)
      high_s high = (sends_above i (omega arith), tally-lt (is_send_to m.receiver) (c m.sender) m.sent i high sends)

      low_r : j ≤ m.received → (receives_in d j ≡ receives_in c j) × (receives_in c j ≤ receives_in c m.received)
      low_r low = (receives_below j low, tally-le (is_receive_from m.sender) (c m.receiver) j m.received low)

      high_r : m.received < j → (receives_in d (j + 1) ≡ receives_in c j + 1) × (receives_in c m.received < receives_in c j)
      high_r high = (receives_above j (omega arith), tally-lt (is_receive_from m.sender) (c m.receiver) m.received j high receives)

      joined : (x y : ℕ) (a b : ℕ) → sends_in d x ≡ a → receives_in d y ≡ b → (sends_in c i ≡ receives_in c j) ↔ (a ≡ b) → (sends_in c i ≡ receives_in c j) ↔ (sends_in d x ≡ receives_in d y)
      joined x y a b p q both = (λ e. p ∙ both.0 e ∙ sym q, λ e. both.1 (sym p ∙ e ∙ q))

      by : ((i ≤ m.sent) × (moved_index m.sent i ≡ i)) ⊎ ((m.sent < i) × (moved_index m.sent i ≡ i + 1)) → ((j ≤ m.received) × (moved_index m.received j ≡ j)) ⊎ ((m.received < j) × (moved_index m.received j ≡ j + 1)) → (sends_in c i ≡ receives_in c j) ↔ (sends_in d (moved_index m.sent i) ≡ receives_in d (moved_index m.received j))
      by (inl a) (inl b) = joined _ _ (sends_in c i) (receives_in c j) (ap (sends_in d) a.1 ∙ (low_s a.0).0) (ap (receives_in d) b.1 ∙ (low_r b.0).0) (λ e. e, λ e. e)
      by (inl a) (inr b) = joined _ _ (sends_in c i) (receives_in c j + 1) (ap (sends_in d) a.1 ∙ (low_s a.0).0) (ap (receives_in d) b.1 ∙ (high_r b.0).0)
          (λ e. absurd (omega (arith, e, (low_s a.0).1, (high_r b.0).1, turn)), λ e. absurd (omega (arith, e, (low_s a.0).1, (high_r b.0).1, turn)))
      by (inr a) (inl b) = joined _ _ (sends_in c i + 1) (receives_in c j) (ap (sends_in d) a.1 ∙ (high_s a.0).0) (ap (receives_in d) b.1 ∙ (low_r b.0).0)
          (λ e. absurd (omega (arith, e, (high_s a.0).1, (low_r b.0).1, turn)), λ e. absurd (omega (arith, e, (high_s a.0).1, (low_r b.0).1, turn)))
      by (inr a) (inr b) = joined _ _ (sends_in c i + 1) (receives_in c j + 1) (ap (sends_in d) a.1 ∙ (high_s a.0).0) (ap (receives_in d) b.1 ∙ (high_r b.0).0) (λ e. omega (arith, e), λ e. omega (arith, e))

  turns : IsInTurn → (p q i j : ℕ) → Passes (is_send_to q) (c p) i → Passes (is_receive_from p) (c q) j → AreTurns p q i j
  turns turn p q i j sends receives = by (eqb_tells p m.sender) (eqb_tells q m.receiver)
    where
      off : ((p ≡ m.sender) × (q ≡ m.receiver) → ⊥) → AreTurns p q i j
      off outside =
          let a = tally-moved (is_send_to q) (c p) (d p) (keeping m c p) i (line_grown p) (send_fails p q outside) in
          let b = tally-moved (is_receive_from p) (c q) (d q) (keeping m c q) j (line_grown q) (receive_fails p q outside) in
          (λ e. a ∙ e ∙ sym b, λ e. sym a ∙ e ∙ b)

      by : ((p == m.sender) ≡ true) × (p ≡ m.sender) ⊎ ((p == m.sender) ≡ false) × (p ≢ m.sender) → ((q == m.receiver) ≡ true) × (q ≡ m.receiver) ⊎ ((q == m.receiver) ≡ false) × (q ≢ m.receiver) → AreTurns p q i j
      by (inl a) (inl b) =
          subst₂ (λ x y. AreTurns x y i j) (sym a.1) (sym b.1)
          (lane_turns turn i j (subst₂ (λ x y. Passes (is_send_to y) (c x) i) a.1 b.1 sends) (subst₂ (λ x y. Passes (is_receive_from x) (c y) j) a.1 b.1 receives))
      by (inl a) (inr b) = off (λ both. b.1 both.1)
      by (inr a) b = off (λ both. a.1 both.0)

  -- each receive keeps its send
  pub kept : IsInTurn → (s r : Place) → BelongsTo c s r → BelongsTo d (moved m c s) (moved m c r)
  kept turn s r b = record {
    sent = send_moved r.instance s b.sent;
    received = receive_moved s.instance r b.received;
    turn = (turns turn s.instance r.instance s.index r.index b.sent b.received).0 b.turn;
  }

  pub was_kept : IsInTurn → (s r : Place) → BelongsTo d (moved m c s) (moved m c r) → BelongsTo c s r
  was_kept turn s r b =
      let sends = moved_send r.instance s b.sent in
      let receives = moved_receive s.instance r b.received in
      record {
        sent = sends;
        received = receives;
        turn = (turns turn s.instance r.instance s.index r.index sends receives).1 b.turn;
      }

  -- what was enforced directly still is, and what was directly
  pub direct_moved : IsInTurn → (e f : Place) → Direct c e f → Direct d (moved m c e) (moved m c f)
  direct_moved turn e f (message b) = message (kept turn e f b)
  direct_moved turn e f (to_send q l s) = to_send q (earlier_moved e f l) (send_moved q f s)
  direct_moved turn e f (same_sender q l x y) = same_sender q (earlier_moved e f l) (receive_moved q e x) (receive_moved q f y)

  pub before_moved : IsInTurn → {e f : Place} → Before c e f → Before d (moved m c e) (moved m c f)
  before_moved turn {e = e} {f = f} (direct s) = direct (direct_moved turn e f s)
  before_moved turn (through x y) = through (before_moved turn x) (before_moved turn y)

  -- what is a race of old events was one
  pub race_was : IsInTurn → (e r : Place) → IsRace d (moved m c e) (moved m c r) → IsRace c e r
  race_was turn e r race = record {
    earlier = moved_earlier e r race.earlier;
    apart = λ x here. subst (λ o. is_in (region_of_event o) x ≡ false) (event_moved r) (race.apart x (event_moved e ∙ here));
    free = λ before. race.free (before_moved turn before);
  }
