-- A run in which a receive comes first: the recorded one, with the receive and all events before it put first.
use Rattle.std.proofs.Common.{◌≡◌, ◌≢◌, ℕ, ◌+◌, ◌<◌, ◌≤◌, ◌↔◌, ◌⊎◌, inl, inr, ⊎_elim, List, ◌++◌, length, drop, get_or, refl, sym, ap, ◌∙◌, subst, subst₂, arith}
use Rattle.std.specs.Prelude.{All}
use Rattle.std.proofs.Math.Path.{fun_ext}
use Rattle.std.proofs.lemmas.Bool.{cases_lt}
use Rattle.std.proofs.lemmas.List.{take-append-drop}
use Rattle.std.proofs.lemmas.List.Elements.{Contains-get_or}
use Rattle.chart.specs.declared.history.Occurrence.{Occurrence}
use Rattle.chart.specs.Events.{is_send_to, is_receive_from, tally}
use Rattle.chart.specs.Histories.{sent, received, chart_of, IsLegal, Begins}
use Rattle.chart.specs.Charts.{Chart, Place, at, IsSendTo, IsReceiveFrom, BelongsTo, IsPossible}
use Rattle.chart.specs.Places.{IsEvent}
use Rattle.chart.specs.Order.{Direct, Before, IsReport}
use Rattle.chart.specs.Order.Direct.{message}
use Rattle.chart.proofs.Tally.{tally_reached, tally-le-count_by}
use Rattle.chart.proofs.Belongs.{IsEvent-from_event, IsEvent-from_passes, not_both, one_sender, one_receiver}
use Rattle.chart.proofs.Knowledge.{up_to_event}
use Rattle.chart.proofs.Histories.{sent_begins-le, received_begins}
use Rattle.chart.proofs.Lanes.{sent_count, received_count}
use Rattle.chart.proofs.Sends.{sends_of}
use Rattle.reordering.specs.OtherRuns.Walks.{Turns, inner, parted, sends_in}
use Rattle.reordering.specs.OtherRuns.OtherRuns.{HasCome, HasEventsOf, KeepsCauses, IsRunOf, IsOvertaken, ComesFirst, CanBeOvertaken, AreOvertaken}
use Rattle.reordering.proofs.OtherRunsLemmas.Turns.{IsWithin, within_come, come_within, within_event, within_weaker, within_both}
use Rattle.reordering.proofs.OtherRunsLemmas.Turns.IsWithin.{send, receive}
use Rattle.reordering.proofs.OtherRunsLemmas.Parts.{inner_sent, inner_received, inner_sends, outer_sent, parted_sends, parted_receives}
use Rattle.reordering.proofs.OtherRunsLemmas.Beginnings.{inner_begins, outer_begins, inner_first}
use Rattle.reordering.proofs.OtherRunsLemmas.Counted.{names_of, names_sent, sends_short}
use Rattle.reordering.proofs.OtherRunsLemmas.Legality.{legal_parted}
use Rattle.reordering.proofs.OtherRunsLemmas.Causes.{order_kept, all_come, keeps_causes}
use Rattle.reordering.proofs.OtherRunsLemmas.Past.{known, bound, past_sends, past_receives, within_up, up_within, closed}

-- What has come in one part, or in both, for any chart.
module _ (c : Chart) (s r : Turns) (h : List Occurrence) where
  -- in the first part: the events within, which had come
  pub inner_come : (f : List Occurrence) (e : Place) → HasCome c (inner s r f) e → IsWithin c s r e × HasCome c f e
  inner_come f e come = (
    within_weaker c (sends_in (inner s r f)) (received (inner s r f)) s r (λ q p. omega (arith, inner_sends s r f q p)) (λ q p. omega (arith, inner_received s r f q p)) e (within_come c (inner s r f) e come),
    come_within c f e (within_weaker c (sends_in (inner s r f)) (received (inner s r f)) (sends_in f) (received f) (λ q p. omega (arith, inner_sends s r f q p)) (λ q p. omega (arith, inner_received s r f q p)) e (within_come c (inner s r f) e come)),
  )

  pub come_inner : (f : List Occurrence) (e : Place) → IsWithin c s r e → HasCome c f e → HasCome c (inner s r f) e
  come_inner f e within come =
      come_within c (inner s r f) e (within_both c s r (sends_in f) (received f) (sends_in (inner s r f)) (received (inner s r f)) (λ q p. omega (arith, inner_sends s r f q p)) (λ q p. omega (arith, inner_received s r f q p)) e within (within_come c f e come))

  -- after the whole first part: the events within, and those that had come
  outer_come : (f : List Occurrence) (e : Place) → HasCome c (parted s r f h) e → IsWithin c s r e ⊎ HasCome c f e
  outer_come f e come = go (within_come c (parted s r f h) e come)
    where
      go : IsWithin c (sends_in (parted s r f h)) (received (parted s r f h)) e → IsWithin c s r e ⊎ HasCome c f e
      go (send q is le) = elim (cases_lt (s e.instance q) (tally (is_send_to q) (c e.instance) e.index)) [
        | inl past ↦ inr (come_within c f e (send q is (omega (arith, le, past, parted_sends s r f h e.instance q))))
        | inr within ↦ inl (send q is within)
      ]
      go (receive q is le) = elim (cases_lt (r q e.instance) (tally (is_receive_from q) (c e.instance) e.index)) [
        | inl past ↦ inr (come_within c f e (receive q is (omega (arith, le, past, parted_receives s r f h q e.instance))))
        | inr within ↦ inl (receive q is within)
      ]

  come_behind : (f : List Occurrence) (e : Place) → IsWithin c s r e → HasCome c h e → HasCome c (parted s r f h) e
  come_behind f e within come =
      come_within c (parted s r f h) e (within_both c s r (sends_in h) (received h) (sends_in (parted s r f h)) (received (parted s r f h)) (λ q p. omega (arith, parted_sends s r f h q p)) (λ q p. omega (arith, parted_receives s r f h q p)) e within (within_come c h e come))

  come_outer : (f : List Occurrence) → Begins f h → (e : Place) → HasCome c f e → HasCome c (parted s r f h) e
  come_outer f begins e come =
      come_within c (parted s r f h) e (within_weaker c (sends_in f) (received f) (sends_in (parted s r f h)) (received (parted s r f h)) (λ q p. omega (arith, parted_sends s r f h q p, sent_begins-le f h begins q p)) (λ q p. omega (arith, parted_receives s r f h q p, received_begins f h begins q p)) e (within_come c f e come))

-- A legal history, and a part of its events that is closed under direct causes.
module _ (n k : ℕ) (h : List Occurrence) (legal : IsLegal n k h) (s r : Turns) (closed_there : (e f : Place) → Direct (chart_of h) e f → IsWithin (chart_of h) s r f → IsWithin (chart_of h) s r e) where
  -- the parts keep the causes
  pub parted_causes : KeepsCauses (chart_of h) (parted s r h h)
  parted_causes g begins e f step come = elim (outer_begins s r h (inner s r h) g begins) [
    | inl w ↦
        let there = subst (λ x. HasCome (chart_of h) x f) w.2 come in
        subst (λ x. HasCome (chart_of h) x e) (sym w.2)
        (elim (outer_come (chart_of h) s r h w.0 f there) [
          | inl within ↦
              let its = closed_there e f step within in
              come_behind (chart_of h) s r h w.0 e its (all_come n k h legal e (within_event (chart_of h) s r e its))
          | inr came ↦ come_outer (chart_of h) s r h w.0 w.1 e (keeps_causes n k h legal w.0 w.1 e f step came)
        ])
    | inr first ↦
        let w = inner_begins s r h g first in
        let there = inner_come (chart_of h) s r h w.0 f (subst (λ x. HasCome (chart_of h) x f) w.2 come) in
        subst (λ x. HasCome (chart_of h) x e) (sym w.2) (come_inner (chart_of h) s r h w.0 e (closed_there e f step there.0) (keeps_causes n k h legal w.0 w.1 e f step there.1))
  ]

  -- they have the history's events
  pub parted_events : HasEventsOf (chart_of h) (parted s r h h)
  parted_events = record {
    messages = λ q p. ap names_of (outer_sent s r h (inner s r h) q p ∙ ap (λ ms. ms ++ drop (s q p) (sent h q p)) (inner_sent s r h q p) ∙ take-append-drop (s q p) (sent h q p)) ∙ names_sent h q p;
    receives = λ q p. omega (arith, parted_receives s r h h q p, received_count n k h legal q p);
  }

  -- a send that is within, on its lane
  send_within : (q p : ℕ) (t : Place) → t.instance ≡ q → IsSendTo (chart_of h) p t → IsWithin (chart_of h) s r t → tally (is_send_to p) (chart_of h q) t.index ≤ s q p
  send_within q p t line sends (send to is le) = subst₂ (λ x y. tally (is_send_to x) (chart_of h y) t.index ≤ s y x) (one_receiver (chart_of h) to p t is sends) line le
  send_within q p t line sends (receive from is le) = absurd (not_both (chart_of h) p from t sends is)

-- A receive in a legal history.
module _ (n k : ℕ) (h : List Occurrence) (legal : IsLegal n k h) (s r : Place) (belongs : BelongsTo (chart_of h) s r) where
  abbrev sends : Turns
  sends = past_sends n k h legal s r belongs

  abbrev receives : Turns
  receives = past_receives n k h legal s r belongs

  -- each receive before it has its send there
  has_sends : (q p : ℕ) → receives q p ≤ sends q p
  has_sends q p = elim (cases_lt 0 (receives q p)) [
    | inr none ↦ omega (arith, none)
    | inl some ↦
        let last = tally_reached (is_receive_from q) (chart_of h p) (receives q p) (past_bound q p) some (omega arith) in
        let f : Place = at p last.0 in
        let within : IsWithin (chart_of h) sends receives f = receive q last.2 (omega (arith, last.3)) in
        let t = sends_of n k h legal q f last.2 in
        let its = closed n k h legal s r belongs t.0 f (message t.1) within in
        let line = one_sender (chart_of h) t.0.instance q f t.1.received last.2 in
        let le = send_within n k h legal sends receives (closed n k h legal s r belongs) q p t.0 line t.1.sent its in
        let turn : tally (is_send_to p) (chart_of h q) t.0.index ≡ tally (is_receive_from q) (chart_of h p) last.0 = subst (λ x. tally (is_send_to p) (chart_of h x) t.0.index ≡ tally (is_receive_from x) (chart_of h p) last.0) line t.1.turn in
        omega (arith, le, turn, last.3)
  ]
    where
      past_bound : ℕ → ℕ → ℕ
      past_bound q p = bound n k h legal s r belongs q p

  -- with a slot for each event of the history there are enough slots
  has_slots : (q p : ℕ) → sends q p ≤ receives q p + (k + length h)
  has_slots q p = omega (arith, tally-le-count_by (is_send_to p) (chart_of h q) (known n k h legal s r belongs q), sent_count h q p, sends_short h q p)

  -- the run
  comes_first : (g : List Occurrence) × IsRunOf n (chart_of h) g × ComesFirst (chart_of h) g r
  comes_first = (
    parted sends receives h h,
    (
      k + length h,
      record {
        legal = legal_parted n k (k + length h) sends receives (omega arith) has_sends has_slots h legal;
        events = parted_events n k h legal sends receives (closed n k h legal s r belongs);
        causes = parted_causes n k h legal sends receives (closed n k h legal s r belongs);
      },
    ),
    (
      inner sends receives h,
      inner_first sends receives h h,
      λ e. (
        λ come. up_within n k h legal s r belongs e (inner_come (chart_of h) sends receives h h e come).0,
        λ up. come_inner (chart_of h) sends receives h h e (within_up n k h legal s r belongs e up) (all_come n k h legal e (up_to_event (chart_of h) r e (IsEvent-from_passes (chart_of h) (is_receive_from s.instance) r belongs.received) up)),
      ),
    ),
  )

-- in some run of a possible chart's events the receive comes first
pub witness : (n : ℕ) (c : Chart) → IsPossible n c → (q : ℕ) (r : Place) → IsReceiveFrom c q r → (g : List Occurrence) × IsRunOf n c g × ComesFirst c g r
witness n c (h, k, legal, same) q r =
    subst (λ d. IsReceiveFrom d q r → (g : List Occurrence) × IsRunOf n d g × ComesFirst d g r) (fun_ext same)
    (λ from. let s = sends_of n k h legal q r from in comes_first n k h legal s.0 r s.1)

module _ (n : ℕ) (c : Chart) (possible : IsPossible n c) (q : ℕ) (r : Place) (from : IsReceiveFrom c q r) where
  -- if r comes first, it overtakes each event that isn't before it
  overtaken : (g : List Occurrence) → ComesFirst c g r → (e : Place) → e ≢ r → (Before c e r → ⊥) → IsOvertaken c g e r
  overtaken g (h, begins, exactly) e differs apart = (h, begins, (exactly r).1 (inl refl), λ come. ⊎_elim (λ same. differs same) (λ before. apart before) ((exactly e).0 come))

  -- an event isn't before r exactly if r can overtake it
  pub reordered : (e : Place) → IsEvent c e → e ≢ r → (Before c e r → ⊥) ↔ CanBeOvertaken n c e r
  reordered e here differs = (
    λ apart. let w = witness n c possible q r from in (w.0, w.1, overtaken w.0 w.2 e differs apart),
    λ can before. can.2.3 (order_kept can.0 can.2.0 can.1.1.causes can.2.1 before can.2.2),
  )

  -- an earlier event of its line isn't r
  earlier_differs : (j : ℕ) → j < r.index → at r.instance j ≢ r
  earlier_differs j less same = omega (arith, less, ap (λ (x : Place). x.index) same)

  pub report_is : (report : List ℕ) → IsReport c r report ↔ AreOvertaken n c r report
  report_is report = (
    λ is. record {
      rising = is.rising;
      exact = λ j. (
        λ there. let w = (is.exact j).0 there in (w.0, w.1, (turns j w.0 (IsEvent-from_event c (at r.instance j) w.1.0 w.1.1)).0 w.2),
        λ w. (is.exact j).1 (w.0, w.1, (turns j w.0 (IsEvent-from_event c (at r.instance j) w.1.0 w.1.1)).1 w.2),
      );
    },
    λ are. record {
      rising = are.rising;
      exact = λ j. (
        λ there. let w = (are.exact j).0 there in (w.0, w.1, (turns j w.0 (IsEvent-from_event c (at r.instance j) w.1.0 w.1.1)).1 w.2),
        λ w. (are.exact j).1 (w.0, w.1, (turns j w.0 (IsEvent-from_event c (at r.instance j) w.1.0 w.1.1)).0 w.2),
      );
    },
  )
    where
      turns : (j : ℕ) → j < r.index → IsEvent c (at r.instance j) → (Before c (at r.instance j) r → ⊥) ↔ CanBeOvertaken n c (at r.instance j) r
      turns j less here = reordered (at r.instance j) here (earlier_differs j less)

  -- in one run r overtakes all events that its report lists
  pub one_run : (report : List ℕ) → IsReport c r report → (g : List Occurrence) × IsRunOf n c g × All (λ j. IsOvertaken c g (at r.instance j) r) report
  one_run report is =
      let w = witness n c possible q r from in (
        w.0,
        w.1,
        λ i d within.
            let its = (is.exact (get_or report i d)).0 (Contains-get_or report i d within) in
            overtaken w.0 w.2 (at r.instance (get_or report i d)) (earlier_differs (get_or report i d) its.0) its.2,
      )
