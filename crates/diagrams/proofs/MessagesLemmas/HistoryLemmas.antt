-- The history of ends that come one after the other. Each line's ends come in order, and each lane is first in, first
-- out. The history is legal, and its lines are those of the ends.
use Rattle.std.proofs.Common.{◌≡◌, ℕ, suc, ◌+◌, ◌<◌, ◌≤◌, ◌==◌, Bool, true, false, cond, List, [], ◌∷◌, ◌++◌, length, filter, Option, Some, refl, sym, ap, ◌∙◌, subst, arith, length-drop}
use Rattle.std.proofs.lemmas.Bool.{eqb-true, eqb-false, eq-eqb, and_parts}
use Rattle.std.proofs.lemmas.List.{length_push}
use Rattle.chart.specs.declared.history.Occurrence.{Occurrence}
use Rattle.chart.specs.declared.history.Occurrence.TheVariants.{Send, Receive, Close}
use Rattle.chart.specs.declared.line.TheConstants.{MAX_EVENTS}
use Rattle.chart.specs.Messages.{Content}
use Rattle.chart.specs.Events.{send_event, receive_event, greatest_region, MayHaveRegion}
use Rattle.chart.specs.Events as events
use Rattle.chart.specs.Histories.{by, is_lane, sent, received, waiting, is_closed, chart_of, AreTwo, MayFollow, IsLegal}
use Rattle.chart.proofs.Histories.{is_lane-same, received-le, waiting-send, waiting-send_other, waiting-receive, waiting-receive_other}
use Rattle.chart.proofs.Sends.{line_after_send, line_after_receive}
use Rattle.chart.proofs.Steps.{line_of_other}
use Rattle.diagrams.specs.Messages.Opening.{IsOpen}
use Rattle.diagrams.specs.Messages.Regions.{region_of, event_of, with_ends}
use Rattle.diagrams.specs.Messages.Turns.{own_ends}
use Rattle.diagrams.specs.declared.messages.end.End.{End}
use Rattle.diagrams.specs.Messages.Each.{Each}
use Rattle.diagrams.proofs.MessagesLemmas.LineLemmas.{may_come, open_next}

-- the message of an end
abbrev pub content_of : End → Content
content_of e = record { name = e.name; body = [] }

-- the end is one of a message from q to p
abbrev pub is_of : ℕ → ℕ → End → Bool
is_of q p e = cond e.sends (is_lane e.instance e.partner q p) (is_lane e.partner e.instance q p)

abbrev pub lane_ends : ℕ → ℕ → List End → List End
lane_ends q p ends = filter (is_of q p) ends

-- each receive takes the first of the messages that wait on a lane
abbrev pub Fifo : List Content → List End → Type 0
Fifo ms [] = Unit {0}
Fifo ms (e ∷ ends) = (e.sends ≡ true → Fifo (ms ++ content_of e ∷ []) ends)
    × (e.sends ≡ false → (m : Content) × (rest : List Content) × (ms ≡ m ∷ rest) × (m.name ≡ e.name) × Fifo rest ends)

-- the coregion of an end at its place in the history
abbrev pub region_at : List Occurrence → (ℕ → Option End) → End → List End → ℕ
region_at h lasts e ends = region_of (lasts e.instance) (greatest_region (chart_of h e.instance)) e (own_ends e.instance ends)

-- the occurrence of an end
abbrev pub happening : List Occurrence → (ℕ → Option End) → End → List End → Occurrence
happening h lasts e ends = cond e.sends (Send e.instance e.partner (content_of e)) (Receive e.instance e.partner (region_at h lasts e ends))

abbrev pub with_last : (ℕ → Option End) → End → ℕ → Option End
with_last lasts e p = cond (e.instance == p) (Some e) (lasts p)

-- the history, with the occurrences of these ends
abbrev pub history_from : List Occurrence → (ℕ → Option End) → List End → List Occurrence
history_from h lasts [] = h
history_from h lasts (e ∷ ends) = history_from (happening h lasts e ends ∷ h) (with_last lasts e) ends

-- the properties of a history and of the ends to come, among n instances whose lanes have k slots
pub record Stands (n k : ℕ) (h : List Occurrence) (lasts : ℕ → Option End) (ends : List End) : Type 0 where
  pub legal : IsLegal n k h
  pub opened : (q p : ℕ) → is_closed h q p ≡ false
  pub slots : length h + length ends < k
  pub two : Each (λ e. AreTwo n e.instance e.partner) ends
  pub room : (p : ℕ) → length (chart_of h p) + length (own_ends p ends) ≤ MAX_EVENTS
  pub is_open : (p : ℕ) → IsOpen (lasts p) (chart_of h p) (own_ends p ends)
  pub fifo : (q p : ℕ) → Fifo (waiting h q p) (lane_ends q p ends)

-- a history has at least as many occurrences as sent messages
sent-few : (h : List Occurrence) (q p : ℕ) → length (sent h q p) ≤ length h
sent-few [] q p = omega arith
sent-few (Send a b m ∷ h) q p = go (is_lane a b q p) (sent-few h q p)
  where
    go : (its : Bool) → length (sent h q p) ≤ length h → length (cond its (sent h q p ++ m ∷ []) (sent h q p)) ≤ suc (length h)
    go true few = omega (arith, length_push (sent h q p) m)
    go false few = omega arith
sent-few (Receive a b c ∷ h) q p = omega (arith, sent-few h q p)
sent-few (Close a b ∷ h) q p = omega (arith, sent-few h q p)

waiting-few : (h : List Occurrence) (q p : ℕ) → length (waiting h q p) ≤ length h
waiting-few h q p = omega (arith, sent-few h q p, length-drop (received h q p) (sent h q p))

-- an end is the first of the ends of its instance
own_first : (e : End) (ends : List End) → own_ends e.instance (e ∷ ends) ≡ e ∷ own_ends e.instance ends
own_first e ends = rw (eq-eqb e.instance e.instance refl) refl

own_other : (p : ℕ) (e : End) (ends : List End) → (e.instance == p) ≡ false → own_ends p (e ∷ ends) ≡ own_ends p ends
own_other p e ends other = rw other refl

-- an occurrence that appends an end's event to the line of its instance
pub record Adds (h : List Occurrence) (o : Occurrence) (lasts : ℕ → Option End) (e : End) (ends : List End) : Type 0 where
  pub who : by o ≡ e.instance
  pub line : chart_of (o ∷ h) e.instance ≡ chart_of h e.instance ++ event_of e (region_at h lasts e ends) ∷ []

module _ (n k : ℕ) (h : List Occurrence) (lasts : ℕ → Option End) (e : End) (ends : List End) (s : Stands n k h lasts (e ∷ ends)) where
  -- its own line has room, and its coregion may come there
  room_here : length (chart_of h e.instance) + suc (length (own_ends e.instance ends)) ≤ MAX_EVENTS
  room_here = omega (arith, s.room e.instance, ap length (own_first e ends))

  open_here : IsOpen (lasts e.instance) (chart_of h e.instance) (e ∷ own_ends e.instance ends)
  open_here = subst (IsOpen (lasts e.instance) (chart_of h e.instance)) (own_first e ends) (s.is_open e.instance)

  -- each line after that
  room_next : (o : Occurrence) → Adds h o lasts e ends → (p : ℕ) → length (chart_of (o ∷ h) p) + length (own_ends p ends) ≤ MAX_EVENTS
  room_next o adds p = go (e.instance == p) refl
    where
      go : (its : Bool) → (e.instance == p) ≡ its → length (chart_of (o ∷ h) p) + length (own_ends p ends) ≤ MAX_EVENTS
      go true same = subst (λ x. length (chart_of (o ∷ h) x) + length (own_ends x ends) ≤ MAX_EVENTS) (eqb-true e.instance p same)
          (omega (arith, room_here, ap length adds.line, length_push (chart_of h e.instance) (event_of e (region_at h lasts e ends))))
      go false other = omega (arith, s.room p, ap length (own_other p e ends other), ap length (line_of_other h o p (λ same. eqb-false e.instance p other (sym adds.who ∙ same))))

  open_then : (o : Occurrence) → Adds h o lasts e ends → (p : ℕ) → IsOpen (with_last lasts e p) (chart_of (o ∷ h) p) (own_ends p ends)
  open_then o adds p = go (e.instance == p) refl
    where
      go : (its : Bool) → (e.instance == p) ≡ its → IsOpen (cond its (Some e) (lasts p)) (chart_of (o ∷ h) p) (own_ends p ends)
      go true same = subst (λ x. IsOpen (Some e) (chart_of (o ∷ h) x) (own_ends x ends)) (eqb-true e.instance p same)
          (subst (λ l. IsOpen (Some e) l (own_ends e.instance ends)) (sym adds.line) (open_next (lasts e.instance) (chart_of h e.instance) e (own_ends e.instance ends) open_here))
      go false other =
          let line : chart_of (o ∷ h) p ≡ chart_of h p = line_of_other h o p (λ same. eqb-false e.instance p other (sym adds.who ∙ same)) in
          subst (λ l. IsOpen (lasts p) l (own_ends p ends)) (sym line) (subst (IsOpen (lasts p) (chart_of h p)) (own_other p e ends other) (s.is_open p))

  -- a send
  send_adds : e.sends ≡ true → Adds h (Send e.instance e.partner (content_of e)) lasts e ends
  send_adds sends = record {
    who = refl;
    line = line_after_send h e.instance e.partner (content_of e) ∙ ap (λ b. chart_of h e.instance ++ cond b (send_event e.partner e.name) (receive_event e.partner e.name (region_at h lasts e ends)) ∷ []) (sym sends);
  }

  send_fifo : e.sends ≡ true → (q p : ℕ) → Fifo (waiting (Send e.instance e.partner (content_of e) ∷ h) q p) (lane_ends q p ends)
  send_fifo sends q p = go (is_lane e.instance e.partner q p) refl
    where
      its_lane : is_of q p e ≡ is_lane e.instance e.partner q p
      its_lane = ap (λ b. cond b (is_lane e.instance e.partner q p) (is_lane e.partner e.instance q p)) sends

      before : (its : Bool) → is_of q p e ≡ its → Fifo (waiting h q p) (cond its (e ∷ lane_ends q p ends) (lane_ends q p ends))
      before its same = subst (λ b. Fifo (waiting h q p) (cond b (e ∷ lane_ends q p ends) (lane_ends q p ends))) same (s.fifo q p)

      go : (its : Bool) → is_lane e.instance e.partner q p ≡ its → Fifo (waiting (Send e.instance e.partner (content_of e) ∷ h) q p) (lane_ends q p ends)
      go true lane =
          let parts = and_parts (e.instance == q) (e.partner == p) lane in
          let from : e.instance ≡ q = eqb-true e.instance q parts.0 in
          let to : e.partner ≡ p = eqb-true e.partner p parts.1 in
          let grown : waiting (Send e.instance e.partner (content_of e) ∷ h) e.instance e.partner ≡ waiting h e.instance e.partner ++ content_of e ∷ [] =
          waiting-send h e.instance e.partner (content_of e) (received-le n k h s.legal e.instance e.partner) in
          let here : waiting (Send e.instance e.partner (content_of e) ∷ h) q p ≡ waiting h q p ++ content_of e ∷ [] =
          subst (λ y. waiting (Send e.instance e.partner (content_of e) ∷ h) q y ≡ waiting h q y ++ content_of e ∷ []) to
          (subst (λ x. waiting (Send e.instance e.partner (content_of e) ∷ h) x e.partner ≡ waiting h x e.partner ++ content_of e ∷ []) from grown) in
          subst (λ ms. Fifo ms (lane_ends q p ends)) (sym here) ((before true (its_lane ∙ lane)).0 sends)
      go false other =
          subst (λ ms. Fifo ms (lane_ends q p ends)) (sym (waiting-send_other h e.instance e.partner q p (content_of e) other)) (before false (its_lane ∙ other))

  send_may : MayFollow n k h (Send e.instance e.partner (content_of e))
  send_may = (s.two.0, s.opened e.instance e.partner, omega (arith, s.slots, waiting-few h e.instance e.partner), omega (arith, room_here))

  pub send_stands : e.sends ≡ true → Stands n k (Send e.instance e.partner (content_of e) ∷ h) (with_last lasts e) ends
  send_stands sends = record {
    legal = (send_may, s.legal);
    opened = s.opened;
    slots = omega (arith, s.slots);
    two = s.two.1;
    room = room_next (Send e.instance e.partner (content_of e)) (send_adds sends);
    is_open = open_then (Send e.instance e.partner (content_of e)) (send_adds sends);
    fifo = send_fifo sends;
  }

  -- a receive takes the first message that waits
  first_waits : e.sends ≡ false → (m : Content) × (rest : List Content) × (waiting h e.partner e.instance ≡ m ∷ rest) × (m.name ≡ e.name) × Fifo rest (lane_ends e.partner e.instance ends)
  first_waits receives =
      let its : is_of e.partner e.instance e ≡ true =
      ap (λ b. cond b (is_lane e.instance e.partner e.partner e.instance) (is_lane e.partner e.instance e.partner e.instance)) receives ∙ is_lane-same e.partner e.instance in
      (subst (λ b. Fifo (waiting h e.partner e.instance) (cond b (e ∷ lane_ends e.partner e.instance ends) (lane_ends e.partner e.instance ends))) its (s.fifo e.partner e.instance)).1 receives

  receive_adds : e.sends ≡ false → Adds h (Receive e.instance e.partner (region_at h lasts e ends)) lasts e ends
  receive_adds receives =
      let first = first_waits receives in
      record {
        who = refl;
        line = line_after_receive h e.instance e.partner (region_at h lasts e ends) first.0 first.1 first.2
            ∙ ap (λ name. chart_of h e.instance ++ receive_event e.partner name (region_at h lasts e ends) ∷ []) first.3
            ∙ ap (λ b. chart_of h e.instance ++ cond b (send_event e.partner e.name) (receive_event e.partner e.name (region_at h lasts e ends)) ∷ []) (sym receives);
      }

  receive_fifo : e.sends ≡ false → (q p : ℕ) → Fifo (waiting (Receive e.instance e.partner (region_at h lasts e ends) ∷ h) q p) (lane_ends q p ends)
  receive_fifo receives q p = go (is_lane e.partner e.instance q p) refl
    where
      its_lane : is_of q p e ≡ is_lane e.partner e.instance q p
      its_lane = ap (λ b. cond b (is_lane e.instance e.partner q p) (is_lane e.partner e.instance q p)) receives

      go : (its : Bool) → is_lane e.partner e.instance q p ≡ its → Fifo (waiting (Receive e.instance e.partner (region_at h lasts e ends) ∷ h) q p) (lane_ends q p ends)
      go true lane =
          let parts = and_parts (e.partner == q) (e.instance == p) lane in
          let from : e.partner ≡ q = eqb-true e.partner q parts.0 in
          let to : e.instance ≡ p = eqb-true e.instance p parts.1 in
          let first = first_waits receives in
          let o : Occurrence = Receive e.instance e.partner (region_at h lasts e ends) in
          let here : Fifo (waiting (o ∷ h) e.partner e.instance) (lane_ends e.partner e.instance ends) =
          subst (λ ms. Fifo ms (lane_ends e.partner e.instance ends)) (sym (waiting-receive h e.instance e.partner (region_at h lasts e ends) first.0 first.1 first.2)) first.4 in
          subst (λ y. Fifo (waiting (o ∷ h) q y) (lane_ends q y ends)) to (subst (λ x. Fifo (waiting (o ∷ h) x e.instance) (lane_ends x e.instance ends)) from here)
      go false other =
          subst (λ ms. Fifo ms (lane_ends q p ends)) (sym (waiting-receive_other h e.instance e.partner (region_at h lasts e ends) q p other))
          (subst (λ b. Fifo (waiting h q p) (cond b (e ∷ lane_ends q p ends) (lane_ends q p ends))) (its_lane ∙ other) (s.fifo q p))

  receive_may : e.sends ≡ false → MayFollow n k h (Receive e.instance e.partner (region_at h lasts e ends))
  receive_may receives =
      let first = first_waits receives in
      (s.two.0, omega (arith, ap length first.2), omega (arith, room_here), comes)
    where
      comes : MayHaveRegion (chart_of h e.instance) (region_at h lasts e ends)
      comes = subst (λ b. MayHaveRegion (chart_of h e.instance) (events.region_of (cond b (send_event e.partner e.name) (receive_event e.partner e.name (region_at h lasts e ends))))) receives
          (may_come (lasts e.instance) (chart_of h e.instance) e (own_ends e.instance ends) open_here)

  pub receive_stands : e.sends ≡ false → Stands n k (Receive e.instance e.partner (region_at h lasts e ends) ∷ h) (with_last lasts e) ends
  receive_stands receives = record {
    legal = (receive_may receives, s.legal);
    opened = s.opened;
    slots = omega (arith, s.slots);
    two = s.two.1;
    room = room_next (Receive e.instance e.partner (region_at h lasts e ends)) (receive_adds receives);
    is_open = open_then (Receive e.instance e.partner (region_at h lasts e ends)) (receive_adds receives);
    fifo = receive_fifo receives;
  }

  -- a send or a receive
  pub happens : Stands n k (happening h lasts e ends ∷ h) (with_last lasts e) ends × Adds h (happening h lasts e ends) lasts e ends
  happens = go e.sends refl
    where
      go : (its : Bool) → e.sends ≡ its
          → Stands n k (cond its (Send e.instance e.partner (content_of e)) (Receive e.instance e.partner (region_at h lasts e ends)) ∷ h) (with_last lasts e) ends
          × Adds h (cond its (Send e.instance e.partner (content_of e)) (Receive e.instance e.partner (region_at h lasts e ends))) lasts e ends
      go true sends = (send_stands sends, send_adds sends)
      go false receives = (receive_stands receives, receive_adds receives)

-- the history is legal
pub history_legal : (n k : ℕ) (h : List Occurrence) (lasts : ℕ → Option End) (ends : List End) → Stands n k h lasts ends → IsLegal n k (history_from h lasts ends)
history_legal n k h lasts [] s = s.legal
history_legal n k h lasts (e ∷ ends) s = history_legal n k (happening h lasts e ends ∷ h) (with_last lasts e) ends (happens n k h lasts e ends s).0

-- and its lines are those of the ends
pub history_chart : (n k : ℕ) (h : List Occurrence) (lasts : ℕ → Option End) (ends : List End) → Stands n k h lasts ends → (p : ℕ)
    → chart_of (history_from h lasts ends) p ≡ with_ends (lasts p) (chart_of h p) (own_ends p ends)
unfolding with_ends
history_chart n k h lasts [] s p = refl
history_chart n k h lasts (e ∷ ends) s p =
    let next = happens n k h lasts e ends s in
    history_chart n k (happening h lasts e ends ∷ h) (with_last lasts e) ends next.0 p ∙ go (e.instance == p) refl next.1
  where
    go : (its : Bool) → (e.instance == p) ≡ its → Adds h (happening h lasts e ends) lasts e ends
        → with_ends (cond its (Some e) (lasts p)) (chart_of (happening h lasts e ends ∷ h) p) (own_ends p ends)
        ≡ with_ends (lasts p) (chart_of h p) (cond its (e ∷ own_ends p ends) (own_ends p ends))
    go true same adds = subst (λ x. with_ends (Some e) (chart_of (happening h lasts e ends ∷ h) x) (own_ends x ends) ≡ with_ends (lasts x) (chart_of h x) (e ∷ own_ends x ends))
        (eqb-true e.instance p same) (ap (λ l. with_ends (Some e) l (own_ends e.instance ends)) adds.line)
    go false other adds = ap (λ l. with_ends (lasts p) l (own_ends p ends)) (line_of_other h (happening h lasts e ends) p (λ same. eqb-false e.instance p other (sym adds.who ∙ same)))
