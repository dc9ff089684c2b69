-- A moment of a run at which all events above an event of a line have come, and a later receive's message waits.
use Rattle.std.proofs.Common.{◌≡◌, ℕ, ◌+◌, ◌≤◌, ◌⊎◌, ◌==◌, inl, inr, max, Bool, true, false, cond, List, [], ◌∷◌, length, refl, sym, ◌∙◌, subst, subst₂, arith, length-append}
use Rattle.std.proofs.lemmas.Bool.{cases_lt}
use Rattle.chart.specs.declared.history.Occurrence.{Occurrence}
use Rattle.chart.specs.declared.history.Occurrence.TheVariants.{Send, Receive, Close}
use Rattle.chart.specs.Messages.{Content}
use Rattle.chart.specs.Events.{send_event, is_send_to, is_receive_from, tally}
use Rattle.chart.specs.Histories.{sent, received, waiting, receive_of, line_gets, chart_of, IsLegal, Begins}
use Rattle.chart.specs.Charts.{Chart, Place, at, IsSendTo, BelongsTo}
use Rattle.chart.specs.Places.{IsEvent}
use Rattle.chart.specs.Order.{IsEarlier, Direct, Before}
use Rattle.chart.specs.Order.Direct.{message}
use Rattle.chart.specs.Order.Before.{direct, through}
use Rattle.chart.specs.Knowing.{IsUpTo}
use Rattle.chart.proofs.Tally.{tally_reached, tally-le, tally_all, tally-le-count_by}
use Rattle.chart.proofs.Belongs.{IsEvent-from_passes, not_both, one_sender, one_receiver}
use Rattle.chart.proofs.Cycles.{acyclic}
use Rattle.chart.proofs.Existence.{send_or_receive, known_exists}
use Rattle.chart.proofs.Histories.{sent_begins-le, received_begins, begins_same, begins_onward}
use Rattle.chart.proofs.Knowledge.{known_front, up_to_event}
use Rattle.chart.proofs.Lanes.{sent_count, received_count}
use Rattle.chart.proofs.Sends.{sends_of}
use Rattle.reordering.specs.OtherRuns.Walks.{Turns, inner, parted, sends_in}
use Rattle.reordering.specs.OtherRuns.OtherRuns.{HasCome, IsRunOf}
use Rattle.reordering.proofs.OtherRunsLemmas.Beginnings.{inner_first}
use Rattle.reordering.proofs.OtherRunsLemmas.Causes.{come_there, there_come, all_come, keeps_causes}
use Rattle.reordering.proofs.OtherRunsLemmas.Counted.{sends_short}
use Rattle.reordering.proofs.OtherRunsLemmas.Legality.{legal_parted}
use Rattle.reordering.proofs.OtherRunsLemmas.Past.{turn_from_place}
use Rattle.reordering.proofs.OtherRunsLemmas.Turns.{IsWithin, within_come, come_within, within_weaker}
use Rattle.reordering.proofs.OtherRunsLemmas.Turns.IsWithin.{send, receive}
use Rattle.reordering.proofs.OtherRunsLemmas.Witnesses.{inner_come, come_inner, parted_causes, parted_events}

-- an occurrence adds at most one event to a line
gets_one : (h : List Occurrence) (p : ℕ) (x : Occurrence) → length (line_gets h p x) ≤ 1
gets_one h p (Send a b m) = go (a == p)
  where
    go : (mine : Bool) → length (cond mine (send_event b m.name ∷ []) []) ≤ 1
    go true = omega arith
    go false = omega arith
gets_one h p (Receive a b c) = go (a == p) (waiting h b a)
  where
    go : (mine : Bool) (ms : List Content) → length (cond mine (receive_of ms b c) []) ≤ 1
    go true [] = omega arith
    go true (m ∷ ms) = omega arith
    go false ms = omega arith
gets_one h p (Close a b) = omega arith

-- a send that is within the numbers, on its lane
send_within : (c : Chart) (s r : Turns) (q p : ℕ) (t : Place) → t.instance ≡ q → IsSendTo c p t → IsWithin c s r t → tally (is_send_to p) (c q) t.index ≤ s q p
send_within c s r q p t line sends (send to is le) = subst₂ (λ x y. tally (is_send_to x) (c y) t.index ≤ s y x) (one_receiver c to p t is sends) line le
send_within c s r q p t line sends (receive from is le) = absurd (not_both c p from t sends is)

-- a beginning of a history in which a line has this number of events
pub line_reached : (h : List Occurrence) (p m : ℕ) → m ≤ length (chart_of h p) → (f : List Occurrence) × Begins f h × (length (chart_of f p) ≡ m)
line_reached [] p m le = ([], begins_same [], omega (arith, le))
line_reached (x ∷ h) p m le = elim (cases_lt (length (chart_of h p)) m) [
  | inr within ↦ let w = line_reached h p m within in (w.0, begins_onward w.0 h (x ∷ h) w.1 (x ∷ [], refl), w.2)
  | inl past ↦ (x ∷ h, begins_same (x ∷ h), omega (arith, le, past, gets_one h p x, length-append (chart_of h p) (line_gets h p x)))
]

module _ (n k : ℕ) (h : List Occurrence) (legal : IsLegal n k h) (s r : Place) (belongs : BelongsTo (chart_of h) s r) where
  -- how many events of a line the send knows
  abbrev known : ℕ → ℕ
  known p = (known_exists n k h legal r.instance s belongs.sent p).0

  front : (f : Place) → 1 ≤ f.index → (IsUpTo (chart_of h) s f → f.index ≤ known f.instance) × (f.index ≤ known f.instance → IsUpTo (chart_of h) s f)
  front f low = known_front (chart_of h) r.instance s f.instance (known f.instance) belongs.sent (known_exists n k h legal r.instance s belongs.sent f.instance).1 f.index low

  abbrev known_sends : Turns
  known_sends q p = tally (is_send_to p) (chart_of h q) (known q)

  abbrev known_receives : Turns
  known_receives q p = tally (is_receive_from q) (chart_of h p) (known p)

  up_within : (f : Place) → IsUpTo (chart_of h) s f → IsWithin (chart_of h) known_sends known_receives f
  up_within f up =
      let here = up_to_event (chart_of h) s f (IsEvent-from_passes (chart_of h) (is_send_to r.instance) s belongs.sent) up in
      let le = (front f here.0).0 up in
      elim (send_or_receive (chart_of h) f here) [
        | inl is ↦ send is.0 is.1 (tally-le (is_send_to is.0) (chart_of h f.instance) f.index (known f.instance) le)
        | inr is ↦ receive is.0 is.1 (tally-le (is_receive_from is.0) (chart_of h f.instance) f.index (known f.instance) le)
      ]

  within_up : (f : Place) → IsWithin (chart_of h) known_sends known_receives f → IsUpTo (chart_of h) s f
  within_up f (send q is le) = (front f (IsEvent-from_passes (chart_of h) (is_send_to q) f is).0).1 (turn_from_place (is_send_to q) (chart_of h f.instance) f.index (known f.instance) is le)
  within_up f (receive q is le) = (front f (IsEvent-from_passes (chart_of h) (is_receive_from q) f is).0).1 (turn_from_place (is_receive_from q) (chart_of h f.instance) f.index (known f.instance) is le)

  -- together with the events that had come by a beginning of the history
  module _ (past : List Occurrence) (begins : Begins past h) where
    abbrev pub sends : Turns
    sends q p = max (known_sends q p) (length (sent past q p))

    abbrev pub receives : Turns
    receives q p = max (known_receives q p) (received past q p)

    either : (f : Place) → IsWithin (chart_of h) sends receives f → IsUpTo (chart_of h) s f ⊎ HasCome (chart_of h) past f
    either f (send q is le) = elim (cases_lt (known_sends f.instance q) (tally (is_send_to q) (chart_of h f.instance) f.index)) [
      | inl over ↦ inr (come_within (chart_of h) past f (send q is (omega (arith, le, over))))
      | inr low ↦ inl (within_up f (send q is low))
    ]
    either f (receive q is le) = elim (cases_lt (known_receives q f.instance) (tally (is_receive_from q) (chart_of h f.instance) f.index)) [
      | inl over ↦ inr (come_within (chart_of h) past f (receive q is (omega (arith, le, over))))
      | inr low ↦ inl (within_up f (receive q is low))
    ]

    pub from_up : (f : Place) → IsUpTo (chart_of h) s f → IsWithin (chart_of h) sends receives f
    from_up f up = within_weaker (chart_of h) known_sends known_receives sends receives (λ q p. omega arith) (λ q p. omega arith) f (up_within f up)

    pub from_come : (f : Place) → HasCome (chart_of h) past f → IsWithin (chart_of h) sends receives f
    from_come f come = within_weaker (chart_of h) (sends_in past) (received past) sends receives (λ q p. omega arith) (λ q p. omega arith) f (within_come (chart_of h) past f come)

    closed : (e f : Place) → Direct (chart_of h) e f → IsWithin (chart_of h) sends receives f → IsWithin (chart_of h) sends receives e
    closed e f step within = elim (either f within) [
      | inr came ↦ from_come e (keeps_causes n k h legal past begins e f step came)
      | inl up ↦
          elim up [
            | inl same ↦ from_up e (inr (direct (subst (λ x. Direct (chart_of h) e x) same step)))
            | inr before ↦ from_up e (inr (through (direct step) before))
          ]
    ]

    -- each receive has its send among them
    has_sends : (q p : ℕ) → receives q p ≤ sends q p
    has_sends q p = elim (cases_lt 0 (receives q p)) [
      | inr none ↦ omega (arith, none)
      | inl some ↦
          let whole = tally_all (is_receive_from q) (chart_of h p) (length (chart_of h p)) (omega arith) in
          let known_few = tally-le-count_by (is_receive_from q) (chart_of h p) (known p) in
          let last = tally_reached (is_receive_from q) (chart_of h p) (receives q p) (length (chart_of h p)) some (omega (arith, whole, known_few, received_count n k h legal q p, received_begins past h begins q p)) in
          let f : Place = at p last.0 in
          let within : IsWithin (chart_of h) sends receives f = receive q last.2 (omega (arith, last.3)) in
          let t = sends_of n k h legal q f last.2 in
          let its = closed t.0 f (message t.1) within in
          let line = one_sender (chart_of h) t.0.instance q f t.1.received last.2 in
          let le = send_within (chart_of h) sends receives q p t.0 line t.1.sent its in
          let turn : tally (is_send_to p) (chart_of h q) t.0.index ≡ tally (is_receive_from q) (chart_of h p) last.0 = subst (λ x. tally (is_send_to p) (chart_of h x) t.0.index ≡ tally (is_receive_from x) (chart_of h p) last.0) line t.1.turn in
          omega (arith, le, turn, last.3)
    ]

    -- and with a slot for each event of the history there are enough slots
    has_slots : (q p : ℕ) → sends q p ≤ receives q p + (k + length h)
    has_slots q p = omega (arith, tally-le-count_by (is_send_to p) (chart_of h q) (known q), sent_count h q p, sends_short h q p, sent_begins-le past h begins q p)

    abbrev pub run : List Occurrence
    run = parted sends receives h h

    abbrev pub moment : List Occurrence
    moment = inner sends receives h

    pub is_run : IsRunOf n (chart_of h) run
    is_run = (
      k + length h,
      record {
        legal = legal_parted n k (k + length h) sends receives (omega arith) has_sends has_slots h legal;
        events = parted_events n k h legal sends receives closed;
        causes = parted_causes n k h legal sends receives closed;
      },
    )

    pub begins_run : Begins moment run
    begins_run = inner_first sends receives h h

    -- the events that have come then
    pub come_then : (f : Place) → IsEvent (chart_of h) f → IsWithin (chart_of h) sends receives f → HasCome (chart_of h) moment f
    come_then f here within = come_inner (chart_of h) sends receives h h f within (all_come n k h legal f here)

    pub then_come : (f : Place) → HasCome (chart_of h) moment f → IsUpTo (chart_of h) s f ⊎ HasCome (chart_of h) past f
    then_come f come = either f (inner_come (chart_of h) sends receives h h f come).0

    -- the send has come
    pub send_came : HasCome (chart_of h) moment s
    send_came = come_then s (IsEvent-from_passes (chart_of h) (is_send_to r.instance) s belongs.sent) (from_up s (inl refl))

    -- if the line has all events above an event
    module _ (e : Place) (earlier : IsEarlier e r) (apart : Before (chart_of h) e r → ⊥) (ends : length (chart_of past e.instance) + 1 ≡ e.index) where
      r_here : IsEvent (chart_of h) r
      r_here = IsEvent-from_passes (chart_of h) (is_receive_from s.instance) r belongs.received

      pub line_came : (f : Place) → IsEarlier f e → HasCome (chart_of h) moment f
      line_came f before =
          let low = before.begun in
          let less = before.less in
          let later = earlier.less in
          let in_past : IsEvent (chart_of past) f = (low, subst (λ p. f.index ≤ length (chart_of past p)) (sym before.line) (omega (arith, less, ends))) in
          let in_all : IsEvent (chart_of h) f = (low, subst (λ p. f.index ≤ length (chart_of h p)) (sym (before.line ∙ earlier.line)) (omega (arith, less, later, r_here.1))) in
          come_then f in_all (from_come f (there_come n k h legal past begins f in_past))

      pub not_yet : HasCome (chart_of h) moment e → ⊥
      not_yet come = elim (then_come e come) [
        | inl up ↦
            elim up [
              | inl same ↦ apart (direct (message (subst (λ x. BelongsTo (chart_of h) x r) (sym same) belongs)))
              | inr before ↦ apart (through before (direct (message belongs)))
            ]
        | inr came ↦ let there = come_there n k h legal past begins e came in omega (arith, there.1, ends)
      ]

      pub waits_still : HasCome (chart_of h) moment r → ⊥
      waits_still come = elim (then_come r come) [
        | inl up ↦
            elim up [
              | inl same ↦ acyclic n k h legal (s, direct (message (subst (λ x. BelongsTo (chart_of h) s x) same belongs)))
              | inr before ↦ acyclic n k h legal (r, through before (direct (message belongs)))
            ]
        | inr came ↦
            let there = come_there n k h legal past begins r came in
            let less = earlier.less in
            let within : r.index ≤ length (chart_of past e.instance) = subst (λ p. r.index ≤ length (chart_of past p)) (sym earlier.line) there.1 in
            omega (arith, within, ends, less)
      ]
