-- Along a line: the messages received above its next event, and the send of a receive.
use Rattle.std.proofs.Common.{◌≡◌, ℕ, suc, ◌+◌, ◌-◌, ◌<◌, ◌≤◌, ◌⊎◌, inl, inr, true, List, length, get_or, set, count_by, replicate, Some, refl, sym, ap, ◌∙◌, subst, arith, add-one, eqb-true}
use Rattle.std.proofs.lemmas.Bool.{cases_eq}
use Rattle.std.proofs.lemmas.Option.{same_Some, slice_get_read}
use Rattle.std.proofs.lemmas.List.{length-set, length-replicate, get_or-set_same}
use Rattle.std.specs.Prelude.{slice_index}
use Rattle.chart.specs.declared.event.Event.{Event}
use Rattle.chart.specs.declared.event.Event.TheVariants.{Send}
use Rattle.chart.specs.declared.instance.EventNo.{EventNo}
use Rattle.chart.specs.Events.{is_send_to, is_receive_from, tally}
use Rattle.chart.specs.Charts.{Chart, Place, at, chart_event, LineView, IsSendTo, BelongsTo, chart_lines}
use Rattle.chart.proofs.Belongs.{IsEvent-from_passes, same_place, same_send, not_both}
use Rattle.chart.proofs.Tally.{tally-lt, tally-le-count_by}
use Rattle.closure.proofs.LinkLemmas.{tally_pass}
use Rattle.closure.specs.Faults.{place_of}
use Rattle.closure.specs.Links.{HasPassed}
use Rattle.closure.specs.Rows.{entry}
use Rattle.closure.proofs.RunLemmas.{entry-raised}
use Rattle.closure.proofs.SearchLemmas.{entry-zeros}
use Rattle.closure.specs.Cycle.Fronts.{IsHeard}
use Rattle.closure.specs.Cycle.Rounds.{IsReceivedAbove}
use Rattle.closure.specs.Cycle.Turns.{IsReceiveInTurn}
use Rattle.closure.proofs.CycleLemmas.FrontLemmas.{IsFront-same, IsFront-none}

-- nothing was passed yet
pub passed-none : (c : Chart) (n p : ℕ) → HasPassed c n p 0 (replicate n 0)
passed-none c n p = record {
  same = length-replicate n 0;
  within = λ q h. let z = entry-zeros n (suc q) in omega (arith, z);
  turn = λ q h. ap (tally (is_send_to (suc p)) (c (suc q))) (entry-zeros n (suc q));
}

-- nothing is received above a line's first event
pub heard-none : (lines : List LineView) (p : ℕ) → IsHeard lines (at p 1) (replicate (length lines) 0)
heard-none lines p = IsFront-none (length lines) (IsReceivedAbove (chart_lines lines) (at p 1)) (λ s heard. omega (arith, heard.2.begun, heard.2.less))

-- a message that is received above the next event is received above this one, or here
heard_next : (c : Chart) (p k : ℕ) (s : Place) → IsReceivedAbove c (at p (suc k)) s → IsReceivedAbove c (at p k) s ⊎ BelongsTo c s (at p k)
heard_next c p k s (r, belongs, above) =
    elim (cases_eq r.index k) [
      | inl here ↦ inr (subst (BelongsTo c s) (same_place r (at p k) above.line here) belongs)
      | inr differs ↦ inl (r, belongs, record { line = above.line; begun = above.begun; less = omega (arith, above.less, differs) })
    ]

-- a message that is received above an event is received above the next one
heard_before : (c : Chart) (p k : ℕ) (s : Place) → IsReceivedAbove c (at p k) s → IsReceivedAbove c (at p (suc k)) s
heard_before c p k s (r, belongs, above) = (r, belongs, record { line = above.line; begun = above.begun; less = omega (arith, above.less) })

-- a send is passed
pub heard-send : (lines : List LineView) (p k q : ℕ) (front : List ℕ) → IsSendTo (chart_lines lines) q (at p k) → IsHeard lines (at p k) front → IsHeard lines (at p (suc k)) front
heard-send lines p k q front sends heard =
    let c = chart_lines lines in
    IsFront-same (length lines) (IsReceivedAbove c (at p k)) (IsReceivedAbove c (at p (suc k))) front (heard_before c p k)
    (λ s next. elim (heard_next c p k s next) [ inl old ↦ old | inr belongs ↦ absurd (not_both c q s.instance (at p k) sends belongs.received) ])
    heard

-- a receive is passed, which belongs to a later send of that line
pub heard-receive : (lines : List LineView) (p k q j : ℕ) (front : List ℕ) → q < length lines → 1 ≤ k → slice_index front q < j → BelongsTo (chart_lines lines) (at (suc q) j) (at p k) → IsHeard lines (at p k) front → IsHeard lines (at p (suc k)) (set front q j)
heard-receive lines p k q j front within begun later belongs heard = record {
  whole = length-set front q j ∙ heard.whole;
  sound = λ r. elim (cases_eq r (suc q)) [
    | inl e ↦ inr (subst (IsReceivedAbove (chart_lines lines) (at p (suc k))) (sym (same_place (at r (entry (set front q j) r)) (at (suc q) j) e (ap (entry (set front q j)) e ∙ own))) here)
    | inr differs ↦
        let same = entry-raised front q j r differs in
        elim (heard.sound r) [
          | inl none ↦ inl (same ∙ none)
          | inr old ↦ inr (subst (λ i. IsReceivedAbove (chart_lines lines) (at p (suc k)) (at r i)) (sym same) (heard_before (chart_lines lines) p k (at r (entry front r)) old))
        ]
  ];
  most = λ s next. elim (heard_next (chart_lines lines) p k s next) [
    | inl old ↦
        let most = heard.most s old in
        elim (cases_eq s.instance (suc q)) [
          | inl e ↦ let there = ap (entry front) e in let new = ap (entry (set front q j)) e ∙ own in omega (arith, most, there, new)
          | inr differs ↦ let same = entry-raised front q j s.instance differs in omega (arith, most, same)
        ]
    | inr its ↦
        let same : s ≡ at (suc q) j = same_send (chart_lines lines) s (at (suc q) j) (at p k) its belongs in
        subst (λ (x : Place). x.index ≤ entry (set front q j) x.instance) (sym same) (omega (arith, own))
  ];
}
  where
    own : entry (set front q j) (suc q) ≡ j
    own = get_or-set_same front q j 0 (rw heard.whole within)

    here : IsReceivedAbove (chart_lines lines) (at p (suc k)) (at (suc q) j)
    here = (at p k, belongs, record { line = refl; begun = begun; less = omega arith })

-- the receive that the search was for has its turn
pub in_turn : (line : List Event) (q place left turn : ℕ) (m : Event) → place < length line → m ≡ get_or line place m → is_receive_from q m ≡ true → left ≡ 1 → tally (is_receive_from q) line place + left ≡ turn → IsReceiveInTurn line q turn (place + 1)
in_turn line q place left turn m within is receives one sum =
    let there = slice_get_read line (length line) place m refl within is in
    let more = tally_pass (is_receive_from q) line place (m, there, receives) in
    subst (λ j. IsReceiveInTurn line q turn j) (sym (add-one place)) (record { received = (m, there, receives); turn = omega (arith, more, sum, one) })

-- a send's place, by its line and place from 0
pub place_by : (send : EventNo) (line : ℕ) → send.instance ≡ suc line → 1 ≤ send.index → at (suc line) (suc (send.index - 1)) ≡ place_of send
place_by send line is begun = same_place (at (suc line) (suc (send.index - 1))) (place_of send) (sym is) (omega (arith, begun))

-- the event that is read at a send goes to the instance that receives it
pub receiver_is : (c : Chart) (send : EventNo) (r : Place) (line to : ℕ) (name : List ℕ) → BelongsTo c (place_of send) r → send.instance ≡ suc line → chart_event c (at (suc line) (suc (send.index - 1))) ≡ Some (Send to name) → to ≡ r.instance
receiver_is c send r line to name belongs is there =
    let begun = (IsEvent-from_passes c (is_send_to r.instance) (place_of send) belongs.sent).0 in
    let here = subst (λ x. chart_event c x ≡ Some (Send to name)) (place_by send line is begun) there in
    eqb-true to r.instance (subst (λ x. is_send_to r.instance x ≡ true) (same_Some belongs.sent.0 (Send to name) (sym belongs.sent.1 ∙ here)) belongs.sent.2)

-- a send's turn, from the events of its line
pub turn_is : (c : Chart) (s r : Place) (to turn : ℕ) (events : List Event) → BelongsTo c s r → to ≡ r.instance → events ≡ c s.instance → turn ≡ tally (is_send_to to) events s.index → turn ≡ tally (is_send_to r.instance) (c s.instance) s.index
turn_is c s r to turn events belongs goes are is = is ∙ ap (λ q. tally (is_send_to q) events s.index) goes ∙ ap (λ (xs : List Event). tally (is_send_to r.instance) xs s.index) are

-- the turn is at least 1
pub turn_begun : (c : Chart) (s r : Place) → BelongsTo c s r → 1 ≤ tally (is_send_to r.instance) (c s.instance) s.index
turn_begun c s r belongs =
    let begun = (IsEvent-from_passes c (is_send_to r.instance) s belongs.sent).0 in
    let more = tally-lt (is_send_to r.instance) (c s.instance) 0 s.index begun belongs.sent in
    omega (arith, more)

-- the receiver's line has a receive with this turn
pub turn_received : (c : Chart) (s r : Place) → BelongsTo c s r → tally (is_send_to r.instance) (c s.instance) s.index ≤ count_by (is_receive_from s.instance) (c r.instance)
turn_received c s r belongs = let most = tally-le-count_by (is_receive_from s.instance) (c r.instance) r.index in omega (arith, most, belongs.turn)

-- the receive that is found by the turn is the send's
pub found_receive : (c : Chart) (s r : Place) (place turn j : ℕ) (events : List Event) → BelongsTo c s r → r.instance ≡ suc place → events ≡ c (suc place) → turn ≡ tally (is_send_to r.instance) (c s.instance) s.index → IsReceiveInTurn events s.instance turn j → BelongsTo c s (at (suc place) j)
found_receive c s r place turn j events belongs line are is found =
    let moved = subst (λ (xs : List Event). IsReceiveInTurn xs s.instance turn j) are found in
    record {
      sent = subst (λ q. IsSendTo c q s) line belongs.sent;
      received = moved.received;
      turn = ap (λ q. tally (is_send_to q) (c s.instance) s.index) (sym line) ∙ sym is ∙ sym moved.turn;
    }
