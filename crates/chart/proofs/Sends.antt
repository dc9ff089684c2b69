-- In a legal history each receive has its send.
use Rattle.std.proofs.Common.{◌≡◌, ℕ, ◌+◌, ◌==◌, inl, inr, Bool, true, false, cond, List, [], ◌∷◌, ◌++◌, length, Some, refl, sym, ap, ap₂, ◌∙◌, subst, subst₂, arith, append-nil, append_assoc, eqb-true, eq-eqb}
use Rattle.std.proofs.lemmas.Option.{same_Some}
use Rattle.std.proofs.lemmas.Bool.{false≢true}
use Rattle.std.proofs.lemmas.List.{length_push}
use Rattle.chart.specs.declared.history.Occurrence.{Occurrence}
use Rattle.chart.specs.declared.history.Occurrence.TheVariants.{Send, Receive, Close}
use Rattle.chart.specs.declared.event.Event.{Event}
use Rattle.chart.specs.Messages.{Content}
use Rattle.chart.specs.Events.{ith, tally, is_send_to, is_receive_from, name_of, send_event, receive_event}
use Rattle.chart.specs.Histories.{received, waiting, receive_of, line_gets, chart_of, IsLegal}
use Rattle.chart.specs.Charts.{Chart, Place, at, chart_event, IsReceiveFrom, BelongsTo, HasNoSend, HasOtherName}
use Rattle.chart.specs.Places.{IsSendAfter}
use Rattle.chart.proofs.Tally.{ith_push, ith_from_append, ith_nil, ith_single, tally_all, tally-le-count_by}
use Rattle.chart.proofs.Belongs.{IsEvent-from_event, IsEvent-from_passes, same_send}
use Rattle.chart.proofs.Growing.{GrowsTo, HasSends, chart_event_grown, tally_grown, passes_grown, belongs_grown}
use Rattle.chart.proofs.Lanes.{count_push, received_count, send_of_first}

-- the chart of a history grows with each event
pub grows_by_event : (h : List Occurrence) (e : Occurrence) → GrowsTo (chart_of h) (chart_of (e ∷ h))
grows_by_event h e p = (line_gets h p e, refl)

-- it grows with several events
pub grows_by_events : (more h : List Occurrence) → GrowsTo (chart_of h) (chart_of (more ++ h))
grows_by_events [] h p = ([], sym (append-nil (chart_of h p)))
grows_by_events (e ∷ more) h p =
    let w = grows_by_events more h p in
    (w.0 ++ line_gets (more ++ h) p e, ap (λ l. l ++ line_gets (more ++ h) p e) w.1 ∙ append_assoc (chart_of h p) w.0 (line_gets (more ++ h) p e))

-- the line after a send
pub line_after_send : (h : List Occurrence) (p q : ℕ) (x : Content) → chart_of (Send p q x ∷ h) p ≡ chart_of h p ++ send_event q x.name ∷ []
line_after_send h p q x = ap (λ mine. chart_of h p ++ cond mine (send_event q x.name ∷ []) []) (eq-eqb p p refl)

-- the line after a receive of the message x
pub line_after_receive : (h : List Occurrence) (p q c : ℕ) (x : Content) (rest : List Content) → waiting h q p ≡ x ∷ rest → chart_of (Receive p q c ∷ h) p ≡ chart_of h p ++ receive_event q x.name c ∷ []
line_after_receive h p q c x rest e = ap₂ (λ mine ms. chart_of h p ++ cond mine (receive_of ms q c) []) (eq-eqb p p refl) e

-- the newest receive belongs to the send of the first message that waited
pub newest_belongs : (n k : ℕ) (h : List Occurrence) → IsLegal n k h → (p q c : ℕ) (x : Content) (rest : List Content) → waiting h q p ≡ x ∷ rest → (j : ℕ) → IsSendAfter (chart_of h q) p (received h q p) j → BelongsTo (chart_of (Receive p q c ∷ h)) (at q j) (at p (length (chart_of h p) + 1))
newest_belongs n k h legal p q c x rest e j (passes, turn) =
    let new = chart_of (Receive p q c ∷ h) in
    let grows = grows_by_event h (Receive p q c) in
    let here = IsEvent-from_passes (chart_of h) (is_send_to p) (at q j) passes in
    let line_event = receive_event q x.name c in
    let last = length (chart_of h p) + 1 in
    let line = line_after_receive h p q c x rest e in
    let whole = tally_all (is_receive_from q) (chart_of h p ++ line_event ∷ []) last (omega (arith, length_push (chart_of h p) line_event)) in
    let more = rw (eq-eqb q q refl) at (count_push (is_receive_from q) (chart_of h p) line_event) in
    let turns : tally (is_receive_from q) (chart_of h p ++ line_event ∷ []) last ≡ received h q p + 1 = omega (arith, whole, more, received_count n k h legal q p) in
    record {
      sent = passes_grown (chart_of h) new grows (is_send_to p) (at q j) passes;
      received = (line_event, ap (λ l. ith l last) line ∙ ith_push (chart_of h p) line_event, eq-eqb q q refl);
      turn = tally_grown (chart_of h) new grows (is_send_to p) (at q j) here ∙ turn ∙ sym (ap (λ l. tally (is_receive_from q) l last) line ∙ turns);
    }

-- a receive from q that an occurrence adds to a line is the receive of the first message that waited
pub received_with : (h : List Occurrence) (p q : ℕ) (e : Occurrence) (j : ℕ) (m : Event) → ith (line_gets h p e) j ≡ Some m → is_receive_from q m ≡ true → (c : ℕ) × (x : Content) × (rest : List Content) × (e ≡ Receive p q c) × (waiting h q p ≡ x ∷ rest) × (j ≡ 1)
received_with h p q (Send a b x) j m at_j from = go (a == p) at_j
  where
    go : (mine : Bool) → ith (cond mine (send_event b x.name ∷ []) []) j ≡ Some m → (c : ℕ) × (y : Content) × (rest : List Content) × (Send a b x ≡ Receive p q c) × (waiting h q p ≡ y ∷ rest) × (j ≡ 1)
    go true found = let w = ith_single (send_event b x.name) j m found in absurd (false≢true (subst (λ z. is_receive_from q z ≡ true) (sym w.1) from))
    go false found = absurd (ith_nil j m found)
received_with h p q (Receive a b c) j m at_j from = go (waiting h b a) refl (a == p) refl at_j
  where
    go : (ms : List Content) → waiting h b a ≡ ms → (mine : Bool) → (a == p) ≡ mine → ith (cond mine (receive_of ms b c) []) j ≡ Some m → (d : ℕ) × (y : Content) × (rest : List Content) × (Receive a b c ≡ Receive p q d) × (waiting h q p ≡ y ∷ rest) × (j ≡ 1)
    go (x ∷ rest) e true its found =
        let w = ith_single (receive_event b x.name c) j m found in
        let to = eqb-true a p its in
        let by = eqb-true b q (subst (λ z. is_receive_from q z ≡ true) (sym w.1) from) in
        (c, x, rest, ap₂ (λ u v. Receive u v c) to by, subst₂ (λ u v. waiting h v u ≡ x ∷ rest) to by e, w.0)
    go [] e true its found = absurd (ith_nil j m found)
    go ms e false its found = absurd (ith_nil j m found)
received_with h p q (Close a b) j m at_j from = absurd (ith_nil j m at_j)

-- the receive has its send, on q's line and with its name
abbrev pub HasItsSend : Chart → ℕ → Place → Type 0
HasItsSend c q r = (y : ℕ) × (a : Event) × (b : Event) × BelongsTo c (at q y) r × (chart_event c (at q y) ≡ Some a) × (chart_event c r ≡ Some b) × (name_of a ≡ name_of b)

-- the receive keeps its send
HasItsSend-grown : (c d : Chart) → GrowsTo c d → (q : ℕ) (r : Place) → HasItsSend c q r → HasItsSend d q r
HasItsSend-grown c d grows q r (y, a, b, belongs, at_y, at_r, same) =
    (y, a, b, belongs_grown c d grows (at q y) r belongs, chart_event_grown c d grows (at q y) (IsEvent-from_event c (at q y) a at_y) ∙ at_y, chart_event_grown c d grows r (IsEvent-from_event c r b at_r) ∙ at_r, same)

-- the newest receive has its send
newest_has_send : (n k : ℕ) (h : List Occurrence) → IsLegal n k h → (p q c : ℕ) (x : Content) (rest : List Content) → waiting h q p ≡ x ∷ rest → HasItsSend (chart_of (Receive p q c ∷ h)) q (at p (length (chart_of h p) + 1))
newest_has_send n k h legal p q c x rest e =
    let first = send_of_first h q p x rest e in
    let new = chart_of (Receive p q c ∷ h) in
    let here = IsEvent-from_event (chart_of h) (at q first.0) (send_event p x.name) first.2 in
    (first.0, send_event p x.name, receive_event q x.name c, newest_belongs n k h legal p q c x rest e first.0 first.1, chart_event_grown (chart_of h) new (grows_by_event h (Receive p q c)) (at q first.0) here ∙ first.2, ap (λ l. ith l (length (chart_of h p) + 1)) (line_after_receive h p q c x rest e) ∙ ith_push (chart_of h p) (receive_event q x.name c), refl)

-- in a legal history each receive has its send, with its name
pub has_its_send : (n k : ℕ) (h : List Occurrence) → IsLegal n k h → (q : ℕ) (r : Place) → IsReceiveFrom (chart_of h) q r → HasItsSend (chart_of h) q r
has_its_send n k [] legal q r (m, at_r, from) = absurd (ith_nil r.index m at_r)
has_its_send n k (e ∷ h) legal q r (m, at_r, from) =
    elim (ith_from_append (chart_of h r.instance) (line_gets h r.instance e) r.index m at_r) [
      | inl old ↦ HasItsSend-grown (chart_of h) (chart_of (e ∷ h)) (grows_by_event h e) q r (has_its_send n k h legal.1 q r (m, old, from))
      | inr new ↦
          let w = received_with h r.instance q e new.0 m new.2 from in
          let place : r.index ≡ length (chart_of h r.instance) + 1 = omega (arith, new.1, w.5) in
          subst₂ (λ (f : Occurrence) (i : ℕ). HasItsSend (chart_of (f ∷ h)) q (at r.instance i)) (sym w.3) (sym place) (newest_has_send n k h legal.1 r.instance q w.0 w.1 w.2 w.4)
    ]

-- each receive of a legal history's chart has its send
pub sends_of : (n k : ℕ) (h : List Occurrence) → IsLegal n k h → HasSends (chart_of h)
sends_of n k h legal q r from = let w = has_its_send n k h legal q r from in (at q w.0, w.3)

-- in a legal history no receive lacks a send
pub none_without_send : (n k : ℕ) (h : List Occurrence) → IsLegal n k h → (r : Place) → HasNoSend (chart_of h) r → ⊥
none_without_send n k h legal r (q, from, fewer) =
    let w = has_its_send n k h legal q r from in
    let turn = w.3.turn in
    let all = tally-le-count_by (is_send_to r.instance) (chart_of h q) w.0 in
    omega arith

-- in a legal history no receive has another name than its send
pub none_of_other_name : (n k : ℕ) (h : List Occurrence) → IsLegal n k h → (r : Place) → HasOtherName (chart_of h) r → ⊥
none_of_other_name n k h legal r (s, a, b, belongs, at_s, at_r, differs) =
    let w = has_its_send n k h legal s.instance r belongs.received in
    let same = same_send (chart_of h) (at s.instance w.0) s r w.3 belongs in
    let a_same = same_Some w.1 a (sym w.4 ∙ subst (λ x. chart_event (chart_of h) x ≡ Some a) (sym same) at_s) in
    let b_same = same_Some w.2 b (sym w.5 ∙ at_r) in
    differs (ap name_of (sym a_same) ∙ w.6 ∙ ap name_of b_same)
