-- What recorders know along a legal history, and the clocks that its messages carry.
use Rattle.std.proofs.Common.{◌≡◌, ℕ, suc, ◌+◌, ◌<◌, ◌≤◌, ◌==◌, inl, inr, Bool, true, false, cond, max, List, [], ◌∷◌, ◌++◌, length, map, get_or, Some, refl, sym, ap, ◌∙◌, subst, subst₂, arith}
use Rattle.std.specs.Prelude.{slice_get}
use Rattle.std.proofs.lemmas.Bool.{cases_eq, eqb-true, eqb-false, and_parts}
use Rattle.std.proofs.lemmas.Option.{slice_get_within, slice_get-get_or}
use Rattle.std.proofs.lemmas.List.{length_push, length-replicate, length-drop}
use Rattle.chart.specs.declared.history.Occurrence.{Occurrence}
use Rattle.chart.specs.declared.history.Occurrence.TheVariants.{Send, Receive, Close}
use Rattle.chart.specs.Messages.{Content}
use Rattle.chart.specs.Events.{is_send_to, send_event, receive_event}
use Rattle.chart.specs.Histories.{is_lane, sent, received, waiting, chart_of, MayFollow, IsLegal}
use Rattle.chart.specs.Charts.{Chart, at, LineView}
use Rattle.chart.specs.Places.{IsSendAfter}
use Rattle.chart.specs.Order.{IsReport, AreLineRaces}
use Rattle.chart.specs.Knowing.{IsKnown, IsGreatestHeard}
use Rattle.chart.specs.Reports.{ReportView}
use Rattle.chart.proofs.Begun.{send_begun, known_begun, heard_begun}
use Rattle.chart.proofs.Belongs.{IsEvent-from_passes}
use Rattle.chart.proofs.Lanes.{newest_is_send, send_of_message, send_of_first, same_place_on_lane}
use Rattle.chart.proofs.Knowledge.{heard_at_first}
use Rattle.chart.proofs.Places.{each-push}
use Rattle.chart.proofs.Sends.{line_after_send, line_after_receive}
use Rattle.chart.proofs.Steps.{line_of_other, line_after_close, new_send_knows_own, new_send_knows_other, new_send_hears, new_receive_hears, new_receive_reports}
use Rattle.chart.proofs.Tally.{ith_at_drop, ith_nil}
use Rattle.clock.specs.Clocks.{entry_of, with_entry, merged}
use Rattle.clock.proofs.ClockLemmas.{length-merged}
use Rattle.line_recorder.specs.Carried.{first_clock, knowledge_of, clocks_of, waiting_clocks}
use Rattle.line_recorder.specs.Recorders.{RecorderView, IsReportOf}
use Rattle.line_recorder.specs.Laws.{next_place, IsClockOf}
use Rattle.clock.proofs.EntryLemmas.{entry_of-with_entry, entry_of-with_entry_other, length-with_entry, entry_of-merged, entry_of-zeros}

-- each message has a clock
pub clocks_many : (n : ℕ) (h : List Occurrence) (q p : ℕ) → length (clocks_of n h q p) ≡ length (sent h q p)
clocks_many n [] q p = refl
clocks_many n (Send a b m ∷ h) q p = go (is_lane a b q p) (clocks_many n h q p)
  where
    clock : List ℕ
    clock = with_entry (knowledge_of n h q) q (length (chart_of h a) + 1)

    go : (its : Bool) → length (clocks_of n h q p) ≡ length (sent h q p) → length (cond its (clocks_of n h q p ++ clock ∷ []) (clocks_of n h q p)) ≡ length (cond its (sent h q p ++ m ∷ []) (sent h q p))
    go true same = length_push (clocks_of n h q p) clock ∙ ap (λ l. l + 1) same ∙ sym (length_push (sent h q p) m)
    go false same = same
clocks_many n (Receive a b c ∷ h) q p = clocks_many n h q p
clocks_many n (Close a b ∷ h) q p = clocks_many n h q p

-- the clock of the first waiting message is there
first_waits : (n : ℕ) (h : List Occurrence) (q p : ℕ) → 0 < length (waiting h q p) → slice_get (clocks_of n h q p) (received h q p) ≡ Some (first_clock (waiting_clocks n h q p))
first_waits n h q p some = go (waiting_clocks n h q p) refl (omega (arith, length-drop (received h q p) (clocks_of n h q p), length-drop (received h q p) (sent h q p), clocks_many n h q p))
  where
    go : (clocks : List (List ℕ)) → waiting_clocks n h q p ≡ clocks → 0 < length clocks → slice_get (clocks_of n h q p) (received h q p) ≡ Some (first_clock clocks)
    go [] e some = absurd (omega arith)
    go (clock ∷ rest) e some = ith_at_drop (received h q p) (clocks_of n h q p) clock rest e

-- the first waiting message
pub first_message : (ms : List Content) → 0 < length ms → (m : Content) × (rest : List Content) × (ms ≡ m ∷ rest)
first_message [] some = absurd (omega arith)
first_message (m ∷ rest) some = (m, rest, refl)

-- what is carried is right: each clock has n entries; an instance knows of another the greatest event heard of it; and
-- a message's clock is what its send knows
pub record IsCarried (n : ℕ) (h : List Occurrence) : Type 0 where
  pub known_long : (p : ℕ) → length (knowledge_of n h p) ≡ n
  pub long : (q p i : ℕ) (clock : List ℕ) → slice_get (clocks_of n h q p) i ≡ Some clock → length clock ≡ n
  pub knows : (p q : ℕ) → 1 ≤ p → p ≤ n → 1 ≤ q → q ≤ n → (q ≡ p → ⊥) → IsGreatestHeard (chart_of h) p (length (chart_of h p)) q (entry_of (knowledge_of n h p) q)
  pub carries : (q p i j : ℕ) (clock : List ℕ) → slice_get (clocks_of n h q p) i ≡ Some clock → IsSendAfter (chart_of h q) p i j → (r : ℕ) → 1 ≤ r → r ≤ n → IsKnown (chart_of h) (at q j) r (entry_of clock r)

module _ (n k : ℕ) (h : List Occurrence) (legal : IsLegal n k h) (old : IsCarried n h) where
  -- what a line has heard stays the same if the line doesn't grow
  heard_on : (e : Occurrence) (p q : ℕ) → 1 ≤ p → p ≤ n → 1 ≤ q → q ≤ n → (q ≡ p → ⊥) → chart_of (e ∷ h) p ≡ chart_of h p → IsGreatestHeard (chart_of (e ∷ h)) p (length (chart_of (e ∷ h) p)) q (entry_of (knowledge_of n h p) q)
  heard_on e p q p_low p_high low high other same =
      subst (λ l. IsGreatestHeard (chart_of (e ∷ h)) p l q (entry_of (knowledge_of n h p) q)) (sym (ap length same)) (heard_begun n k h (e ∷ h) legal (e ∷ [], refl) p (length (chart_of h p)) q (entry_of (knowledge_of n h p) q) (omega arith) (old.knows p q p_low p_high low high other))

  -- a message that was sent before carries what its send knows
  carried_on : (e : Occurrence) (q p i j : ℕ) (clock : List ℕ) → slice_get (clocks_of n h q p) i ≡ Some clock → IsSendAfter (chart_of (e ∷ h) q) p i j → (r : ℕ) → 1 ≤ r → r ≤ n → IsKnown (chart_of (e ∷ h)) (at q j) r (entry_of clock r)
  carried_on e q p i j clock at_i sends r low high =
      let none : Content = record { name = []; body = [] } in
      let within : i < length (sent h q p) = omega (arith, slice_get_within (clocks_of n h q p) i clock at_i, clocks_many n h q p) in
      let message = send_of_message h q p i (get_or (sent h q p) i none) (slice_get-get_or (sent h q p) i none within) in
      let was = message.0 in
      let same : was ≡ j = same_place_on_lane (chart_of (e ∷ h) q) p i was j (send_begun h (e ∷ h) (e ∷ [], refl) q p i was message.1) sends in
      let here = IsEvent-from_passes (chart_of h) (is_send_to p) (at q was) message.1.0 in
      subst (λ x. IsKnown (chart_of (e ∷ h)) (at q x) r (entry_of clock r)) same (known_begun n k h (e ∷ h) legal (e ∷ [], refl) (at q was) r (entry_of clock r) here (old.carries q p i was clock at_i message.1 r low high))

  module _ (p q : ℕ) (m : Content) (may : MayFollow n k h (Send p q m)) where
    -- the chart with the send
    abbrev after_send : Chart
    after_send = chart_of (Send p q m ∷ h)

    abbrev index : ℕ
    index = length (chart_of h p) + 1

    -- the new message carries what its send knows
    newest_carries : (j : ℕ) → IsSendAfter (after_send p) q (length (clocks_of n h p q)) j → (r : ℕ) → 1 ≤ r → r ≤ n → IsKnown after_send (at p j) r (entry_of (with_entry (knowledge_of n h p) p index) r)
    newest_carries j sends r low high =
        let place : index ≡ j = same_place_on_lane (after_send p) q (length (sent h p q)) index j (newest_is_send h p q m) (subst (λ l. IsSendAfter (after_send p) q l j) (clocks_many n h p q) sends) in
        subst (λ x. IsKnown after_send (at p x) r (entry_of (with_entry (knowledge_of n h p) p index) r)) place (elim (cases_eq r p) [
          | inl own ↦
              let entry = ap (entry_of (with_entry (knowledge_of n h p) p index)) own ∙ entry_of-with_entry (knowledge_of n h p) p index may.0.0 (omega (arith, may.0.1, old.known_long p)) in
              rw entry (subst (λ x. IsKnown after_send (at p index) x index) (sym own) (new_send_knows_own h p q m))
          | inr other ↦ rw (entry_of-with_entry_other (knowledge_of n h p) p r index other) (new_send_knows_other n k h legal p q m r (entry_of (knowledge_of n h p) r) other (old.knows p r may.0.0 may.0.1 low high other))
        ])

    -- what is carried after a send is right
    carried_send : IsCarried n (Send p q m ∷ h)
    carried_send = record { known_long = known_long; long = long; knows = knows; carries = carries }
      where
        known_long : (r : ℕ) → length (knowledge_of n (Send p q m ∷ h) r) ≡ n
        known_long r = go (r == p)
          where
            go : (its : Bool) → length (cond its (with_entry (knowledge_of n h r) r index) (knowledge_of n h r)) ≡ n
            go true = length-with_entry (knowledge_of n h r) r index ∙ old.known_long r
            go false = old.known_long r

        long : (a b i : ℕ) (clock : List ℕ) → slice_get (clocks_of n (Send p q m ∷ h) a b) i ≡ Some clock → length clock ≡ n
        long a b = go (is_lane p q a b)
          where
            go : (its : Bool) (i : ℕ) (clock : List ℕ) → slice_get (cond its (clocks_of n h a b ++ with_entry (knowledge_of n h a) a index ∷ []) (clocks_of n h a b)) i ≡ Some clock → length clock ≡ n
            go true = each-push (λ i clock. length clock ≡ n) (clocks_of n h a b) (with_entry (knowledge_of n h a) a index) (old.long a b) (length-with_entry (knowledge_of n h a) a index ∙ old.known_long a)
            go false = old.long a b

        knows : (a b : ℕ) → 1 ≤ a → a ≤ n → 1 ≤ b → b ≤ n → (b ≡ a → ⊥) → IsGreatestHeard after_send a (length (after_send a)) b (entry_of (knowledge_of n (Send p q m ∷ h) a) b)
        knows a b a_low a_high low high other = go (a == p) refl
          where
            go : (its : Bool) → (a == p) ≡ its → IsGreatestHeard after_send a (length (after_send a)) b (entry_of (cond its (with_entry (knowledge_of n h a) a index) (knowledge_of n h a)) b)
            go true e =
                let same : a ≡ p = eqb-true a p e in
                let longer : index ≡ length (after_send p) = sym (ap length (line_after_send h p q m) ∙ length_push (chart_of h p) (send_event q m.name)) in
                let heard = new_send_hears n k h legal p q m b (entry_of (knowledge_of n h p) b) (old.knows p b may.0.0 may.0.1 low high (λ x. other (x ∙ sym same))) in
                rw (entry_of-with_entry_other (knowledge_of n h a) a b index other) (subst (λ x. IsGreatestHeard after_send x (length (after_send x)) b (entry_of (knowledge_of n h x) b)) (sym same) (subst (λ l. IsGreatestHeard after_send p l b (entry_of (knowledge_of n h p) b)) longer heard))
            go false e = heard_on (Send p q m) a b a_low a_high low high other (line_of_other h (Send p q m) a (λ x. eqb-false a p e (sym x)))

        carries : (a b i j : ℕ) (clock : List ℕ) → slice_get (clocks_of n (Send p q m ∷ h) a b) i ≡ Some clock → IsSendAfter (after_send a) b i j → (r : ℕ) → 1 ≤ r → r ≤ n → IsKnown after_send (at a j) r (entry_of clock r)
        carries a b i j clock at_i sends r low high = go (is_lane p q a b) refl i clock at_i j sends
          where
            Right : ℕ → ℕ → ℕ → List ℕ → Type 0
            Right x y l clock = (j : ℕ) → IsSendAfter (after_send x) y l j → IsKnown after_send (at x j) r (entry_of clock r)

            go : (its : Bool) → is_lane p q a b ≡ its → (l : ℕ) (clock : List ℕ) → slice_get (cond its (clocks_of n h a b ++ with_entry (knowledge_of n h a) a index ∷ []) (clocks_of n h a b)) l ≡ Some clock → Right a b l clock
            go true e =
                let ends = and_parts (p == a) (q == b) e in
                each-push (Right a b) (clocks_of n h a b) (with_entry (knowledge_of n h a) a index)
                (λ l clock there j sends. carried_on (Send p q m) a b l j clock there sends r low high)
                (subst₂ (λ x y. Right x y (length (clocks_of n h x y)) (with_entry (knowledge_of n h x) x index)) (eqb-true p a ends.0) (eqb-true q b ends.1) (λ j sends. newest_carries j sends r low high))
            go false e = λ l clock there j sends. carried_on (Send p q m) a b l j clock there sends r low high

  module _ (p q c : ℕ) (may : MayFollow n k h (Receive p q c)) where
    -- the clock of the message that is received
    abbrev taken_clock : List ℕ
    taken_clock = first_clock (waiting_clocks n h q p)

    -- what is carried after a receive is right
    carried_receive : IsCarried n (Receive p q c ∷ h)
    carried_receive = record { known_long = known_long; long = old.long; knows = knows; carries = λ a b i j clock there sends r low high. carried_on (Receive p q c) a b i j clock there sends r low high }
      where
        new : Chart
        new = chart_of (Receive p q c ∷ h)

        clock_long : length taken_clock ≡ n
        clock_long = old.long q p (received h q p) taken_clock (first_waits n h q p may.1)

        known_long : (r : ℕ) → length (knowledge_of n (Receive p q c ∷ h) r) ≡ n
        known_long r = go (r == p)
          where
            go : (its : Bool) → length (cond its (merged (knowledge_of n h r) taken_clock) (knowledge_of n h r)) ≡ n
            go true = length-merged (knowledge_of n h r) taken_clock (old.known_long r ∙ sym clock_long) ∙ old.known_long r
            go false = old.known_long r

        knows : (a b : ℕ) → 1 ≤ a → a ≤ n → 1 ≤ b → b ≤ n → (b ≡ a → ⊥) → IsGreatestHeard new a (length (new a)) b (entry_of (knowledge_of n (Receive p q c ∷ h) a) b)
        knows a b a_low a_high low high other = go (a == p) refl
          where
            go : (its : Bool) → (a == p) ≡ its → IsGreatestHeard new a (length (new a)) b (entry_of (cond its (merged (knowledge_of n h a) taken_clock) (knowledge_of n h a)) b)
            go true e =
                let same : a ≡ p = eqb-true a p e in
                let message = first_message (waiting h q p) may.1 in
                let send = send_of_first h q p message.0 message.1 message.2 in
                let longer : length (chart_of h p) + 1 ≡ length (new p) = sym (ap length (line_after_receive h p q c message.0 message.1 message.2) ∙ length_push (chart_of h p) (receive_event q message.0.name c)) in
                let known = old.carries q p (received h q p) send.0 taken_clock (first_waits n h q p may.1) send.1 b low high in
                let heard = new_receive_hears n k h legal p q c message.0 message.1 message.2 send.0 send.1 b (entry_of (knowledge_of n h p) b) (entry_of taken_clock b) (old.knows p b may.0.0 may.0.1 low high (λ x. other (x ∙ sym same))) known in
                rw (entry_of-merged (knowledge_of n h a) taken_clock b (old.known_long a ∙ sym clock_long) (omega (arith, old.known_long a)))
                (subst (λ x. IsGreatestHeard new x (length (new x)) b (max (entry_of (knowledge_of n h x) b) (entry_of taken_clock b))) (sym same) (subst (λ l. IsGreatestHeard new p l b (max (entry_of (knowledge_of n h p) b) (entry_of taken_clock b))) longer heard))
            go false e = heard_on (Receive p q c) a b a_low a_high low high other (line_of_other h (Receive p q c) a (λ x. eqb-false a p e (sym x)))

  -- what is carried after a close is right
  carried_close : (p q : ℕ) → IsCarried n (Close p q ∷ h)
  carried_close p q = record {
    known_long = old.known_long;
    long = old.long;
    knows = λ a b a_low a_high low high other. heard_on (Close p q) a b a_low a_high low high other (line_after_close h p q a);
    carries = λ a b i j clock there sends r low high. carried_on (Close p q) a b i j clock there sends r low high;
  }

-- what is carried along a legal history is right
pub carried_right : (n k : ℕ) (h : List Occurrence) → IsLegal n k h → IsCarried n h
carried_right n k [] legal = record {
  known_long = λ p. length-replicate n 0;
  long = λ q p i clock e. absurd (ith_nil (suc i) clock e);
  knows = λ p q p_low p_high low high other. subst (λ l. IsGreatestHeard (chart_of []) p 0 q l) (sym (entry_of-zeros n q (omega (arith, length-replicate {A = ℕ} n 0)))) (heard_at_first (chart_of []) p q);
  carries = λ q p i j clock e sends r low high. absurd (ith_nil (suc i) clock e);
}
carried_right n k (Send p q m ∷ h) legal = carried_send n k h legal.1 (carried_right n k h legal.1) p q m legal.0
carried_right n k (Receive p q c ∷ h) legal = carried_receive n k h legal.1 (carried_right n k h legal.1) p q c legal.0
carried_right n k (Close p q ∷ h) legal = carried_close n k h legal.1 (carried_right n k h legal.1) p q

-- The laws.

pub carried_knowledge : (n k : ℕ) (h : List Occurrence) → IsLegal n k h → (p q : ℕ) → 1 ≤ p → p ≤ n → 1 ≤ q → q ≤ n → (q ≡ p → ⊥) → IsGreatestHeard (chart_of h) p (length (chart_of h p)) q (entry_of (knowledge_of n h p) q)
carried_knowledge n k h legal = (carried_right n k h legal).knows

pub carried_entries : (n k : ℕ) (h : List Occurrence) → IsLegal n k h → (q p i : ℕ) (clock : List ℕ) → slice_get (clocks_of n h q p) i ≡ Some clock → length clock ≡ n
carried_entries n k h legal = (carried_right n k h legal).long

pub carried_clock : (n k : ℕ) (h : List Occurrence) → IsLegal n k h → (q p i j : ℕ) (clock : List ℕ) → slice_get (clocks_of n h q p) i ≡ Some clock → IsSendAfter (chart_of h q) p i j → IsClockOf (chart_of h) (at q j) clock
carried_clock n k h legal q p i j clock there sends r low high =
    let right = carried_right n k h legal in
    right.carries q p i j clock there sends r low (omega (arith, right.long q p i clock there))

pub carried_report : (n k : ℕ) (h : List Occurrence) → IsLegal n k h → (p q c : ℕ) → 1 ≤ p → p ≤ n → 0 < length (waiting h q p) → (clock : List ℕ) (rest : List (List ℕ)) → waiting_clocks n h q p ≡ clock ∷ rest → (r : RecorderView) → r.line ≡ record { instance = p; events = chart_of h p } → (report : ReportView) → IsReportOf r q c clock report
    → IsReport (chart_of (Receive p q c ∷ h)) (next_place r) (map (λ race. race.index) report.earlier)
carried_report n k h legal p q c p_low p_high some clock rest first r line report made =
    let message = first_message (waiting h q p) some in
    let send = send_of_first h q p message.0 message.1 message.2 in
    let there : slice_get (clocks_of n h q p) (received h q p) ≡ Some clock = ith_at_drop (received h q p) (clocks_of n h q p) clock rest first in
    let known = (carried_right n k h legal).carries q p (received h q p) send.0 clock there send.1 p p_low p_high in
    let indices = map (λ race. race.index) report.earlier in
    let races : AreLineRaces (chart_of h p) (entry_of clock p) q c indices = subst (λ (l : LineView). AreLineRaces l.events (entry_of clock l.instance) q c indices) line made.races in
    subst (λ (l : LineView). IsReport (chart_of (Receive p q c ∷ h)) (at l.instance (length l.events + 1)) indices) (sym line) (new_receive_reports n k h legal p q c message.0 message.1 message.2 send.0 send.1 (entry_of clock p) indices known races)
