-- How the sends of a lane are passed, and what holds of events with partners.
use Rattle.std.proofs.Common.{◌≡◌, ◌≢◌, ℕ, zero, suc, ◌+◌, ◌<◌, ◌≤◌, inl, inr, Bool, true, false, List, [], length, get_or, set, count_by, Some, refl, sym, ap, ◌∙◌, subst, arith, add-one, eq-eqb, ne_eqb, ◌==◌}
use Rattle.std.proofs.lemmas.Bool.{cases_eq, false≢true}
use Rattle.std.proofs.lemmas.Option.{same_Some, slice_get_read}
use Rattle.std.proofs.lemmas.List.{length-set, get_or-set_same, get_or-set_other}
use Rattle.std.specs.Prelude.{slice_index}
use Rattle.chart.specs.declared.event.Event.{Event}
use Rattle.chart.specs.declared.event.Event.TheVariants.{Send, Receive}
use Rattle.chart.specs.declared.instance.EventNo.{EventNo}
use Rattle.chart.specs.Events.{ith, tally, is_send_to, is_receive_from, name_of}
use Rattle.chart.specs.Charts.{Chart, Place, at, chart_event, LineView, IsReceiveFrom, BelongsTo, HasNoSend, HasOtherName, chart_lines}
use Rattle.chart.specs.Places.{IsEvent}
use Rattle.chart.proofs.Tally.{Passes, ith_at, tally_cases, tally-lt, tally-le-count_by}
use Rattle.chart.proofs.Belongs.{IsEvent-from_passes, not_both, one_sender, same_send}
use Rattle.closure.specs.declared.error.ChartError.{ChartError}
use Rattle.closure.specs.declared.error.ChartError.TheVariants.{ReceiveWithoutSend, NameMismatch, Cyclic, Memory}
use Rattle.closure.specs.declared.linking.Fault.{Fault}
use Rattle.closure.specs.declared.linking.Fault.TheVariants.{NoSend, OtherName}
use Rattle.closure.specs.declared.partner.Partner.{Partner}
use Rattle.closure.specs.declared.partner.Partner.TheVariants.{Receiver, Sender}
use Rattle.closure.specs.Faults.{place_of, IsFaulty, IsFirst, Refuses}
use Rattle.closure.specs.Rows.{IsRow, AreRows}
use Rattle.closure.specs.Links.{HasSameName, IsPartner, IsNextSend, HasPassed, IsFaultOf, refusal_of, RefusesLine}
use Rattle.closure.proofs.ReadLemmas.{instance_within}

-- two numbers that differ fail the test
ne_from : (a b : ℕ) → (a ≡ b → ⊥) → (a == b) ≡ false
ne_from a b differs = ne_eqb a b differs

-- an event that passes adds one to the tally
pub tally_pass : (test : Event → Bool) (xs : List Event) (i : ℕ) → Passes test xs (suc i) → tally test xs (suc i) ≡ tally test xs i + 1
tally_pass test xs i passes =
    elim (tally_cases test xs i) [
      | inl e ↦ let l = tally-lt test xs i (suc i) (omega arith) passes in absurd (omega arith)
      | inr w ↦ w.1
    ]

-- any other event leaves it as it is
pub tally_skip : (test : Event → Bool) (xs : List Event) (i : ℕ) (m : Event) → ith xs (suc i) ≡ Some m → test m ≡ false → tally test xs (suc i) ≡ tally test xs i
tally_skip test xs i m at_i fails =
    elim (tally_cases test xs i) [
      | inl e ↦ e
      | inr w ↦ absurd (false≢true (sym fails ∙ subst (λ x. test x ≡ true) (same_Some w.0.0 m (sym w.0.1 ∙ at_i)) w.0.2))
    ]

-- the first send after the passed events is the next send
pub IsNextSend-at : (line : List Event) (q passed i : ℕ) (m : Event) → i < length line → m ≡ get_or line i m → is_send_to q m ≡ true → tally (is_send_to q) line i ≡ tally (is_send_to q) line passed → IsNextSend line q passed (i + 1)
IsNextSend-at line q passed i m within is sends turn =
    let at_i = slice_get_read line (length line) i m refl within is in
    subst (λ j. IsNextSend line q passed j) (sym (add-one i)) (record {
      begun = omega arith;
      within = omega arith;
      send = (m, at_i, sends);
      turn = tally_pass (is_send_to q) line i (m, at_i, sends) ∙ ap (λ x. x + 1) turn;
    })

module _ (c : Chart) (n p k : ℕ) (passed : List ℕ) (has : HasPassed c n p k passed) where
  -- a send leaves the passed events as they are
  pub HasPassed-send : (to : ℕ) (name : List ℕ) → chart_event c (at (suc p) (suc k)) ≡ Some (Send to name) → HasPassed c n p (suc k) passed
  HasPassed-send to name is = record {
    same = has.same;
    within = has.within;
    turn = λ q h. has.turn q h ∙ sym (tally_skip (is_receive_from (suc q)) (c (suc p)) k (Send to name) is refl);
  }

  module _ (q from : ℕ) (name : List ℕ) (region : ℕ) (sender : q < n) (by : from ≡ suc q) (is : chart_event c (at (suc p) (suc k)) ≡ Some (Receive from name region)) where
    -- it is a receive from there
    pub received : IsReceiveFrom c (suc q) (at (suc p) (suc k))
    received = (Receive from name region, is, eq-eqb from (suc q) by)

    -- if no send is left, it has none
    pub none_left : count_by (is_send_to (suc p)) (c (suc q)) ≡ tally (is_send_to (suc p)) (c (suc q)) (slice_index passed q) → HasNoSend c (at (suc p) (suc k))
    none_left none =
        let turn = has.turn q sender in
        let more = tally_pass (is_receive_from (suc q)) (c (suc p)) k received in
        (suc q, received, omega arith)

    -- it belongs to the next send
    pub belongs_to_next : (j : ℕ) → IsNextSend (c (suc q)) (suc p) (slice_index passed q) j → BelongsTo c (at (suc q) j) (at (suc p) (suc k))
    belongs_to_next j next = record {
      sent = next.send;
      received = received;
      turn = next.turn ∙ ap (λ x. x + 1) (has.turn q sender) ∙ sym (tally_pass (is_receive_from (suc q)) (c (suc p)) k received);
    }

    -- the next send is then passed
    pub HasPassed-receive : (j : ℕ) → IsNextSend (c (suc q)) (suc p) (slice_index passed q) j → HasPassed c n p (suc k) (set passed q j)
    HasPassed-receive j next =
        let inside : q < length passed = rw has.same sender in
        record {
          same = length-set passed q j ∙ has.same;
          within = λ r h. elim (cases_eq r q) [
            | inl e ↦ subst (λ x. slice_index (set passed q j) x ≤ length (c (suc x))) (sym e) (rw (get_or-set_same passed q j 0 inside) next.within)
            | inr differs ↦ rw (get_or-set_other passed q r j 0 differs) (has.within r h)
          ];
          turn = λ r h. elim (cases_eq r q) [
            | inl e ↦ subst (λ x. tally (is_send_to (suc p)) (c (suc x)) (slice_index (set passed q j) x) ≡ tally (is_receive_from (suc x)) (c (suc p)) (suc k)) (sym e) (ap (tally (is_send_to (suc p)) (c (suc q))) (get_or-set_same passed q j 0 inside) ∙ (belongs_to_next j next).turn)
            | inr differs ↦
                ap (tally (is_send_to (suc p)) (c (suc r))) (get_or-set_other passed q r j 0 differs) ∙ has.turn r h
                ∙ sym (tally_skip (is_receive_from (suc r)) (c (suc p)) k (Receive from name region) is (other r differs))
          ];
        }
      where
        other : (r : ℕ) → r ≢ q → is_receive_from (suc r) (Receive from name region) ≡ false
        other r differs = ne_from from (suc r) (λ e. differs (omega arith))

-- two events with one name
pub HasSameName-from_events : (c : Chart) (s r : Place) (a b : Event) → chart_event c s ≡ Some a → chart_event c r ≡ Some b → name_of a ≡ name_of b → HasSameName c s r
HasSameName-from_events c s r a b at_s at_r same v w at_v at_w = ap name_of (same_Some v a (sym at_v ∙ at_s)) ∙ same ∙ ap name_of (same_Some b w (sym at_r ∙ at_w))

-- an event with a partner is not faulty
pub not_faulty : (lines : List LineView) (r : Place) (partner : Partner) → IsPartner lines r partner → IsFaulty (chart_lines lines) r → ⊥
not_faulty lines r (Receiver line) (within, sends) (inl (q, from, fewer)) = not_both (chart_lines lines) (suc line) q r sends from
not_faulty lines r (Receiver line) (within, sends) (inr (s, a, b, belongs, at_s, at_r, differs)) = not_both (chart_lines lines) (suc line) s.instance r sends belongs.received
not_faulty lines r (Sender line index) (within, belongs, named) (inl (q, from, fewer)) =
    let same = one_sender (chart_lines lines) q (suc line) r from belongs.received in
    let fewer_there = subst (λ x. count_by (is_send_to r.instance) (chart_lines lines x) < tally (is_receive_from x) (chart_lines lines r.instance) r.index) same fewer in
    let turn = belongs.turn in
    let all = tally-le-count_by (is_send_to r.instance) (chart_lines lines (suc line)) index in
    omega arith
not_faulty lines r (Sender line index) (within, belongs, named) (inr (s, a, b, its, at_s, at_r, differs)) =
    let same = same_send (chart_lines lines) (at (suc line) index) s r belongs its in
    differs (named a b (subst (λ x. chart_event (chart_lines lines) x ≡ Some a) (sym same) at_s) at_r)

-- a faulty receive is an event
pub faulty_event : (c : Chart) (r : Place) → IsFaulty c r → IsEvent c r
faulty_event c r (inl (q, from, fewer)) = IsEvent-from_passes c (is_receive_from q) r from
faulty_event c r (inr (s, a, b, belongs, at_s, at_r, differs)) = IsEvent-from_passes c (is_receive_from s.instance) r belongs.received

-- no receive among the first m events of the line is faulty
pub row_not_faulty : (lines : List LineView) (p m : ℕ) (row : List Partner) → IsRow (IsPartner lines) p m row → (i : ℕ) → i ≤ m → IsFaulty (chart_lines lines) (at p i) → ⊥
row_not_faulty lines p m row partners zero le faulty = let w = faulty_event (chart_lines lines) (at p zero) faulty in omega arith
row_not_faulty lines p m row partners (suc k) le faulty =
    let there = ith_at row (suc k) (omega arith) (omega (arith, le, partners.whole)) in
    not_faulty lines (at p (suc k)) there.0 (partners.right k there.0 there.1) faulty

-- the first faulty receive of a line is refused
pub RefusesLine-from_fault : (lines : List LineView) (p k : ℕ) (row : List Partner) (fault : Fault) (e : ChartError) → IsRow (IsPartner lines) p k row → IsFaultOf (chart_lines lines) (at p (suc k)) fault → e ≡ refusal_of fault (record { instance = p; index = k + 1 }) → RefusesLine (chart_lines lines) p e
RefusesLine-from_fault lines p k row fault e partners is same = subst (RefusesLine (chart_lines lines) p) (sym same) (go fault is)
  where
    go : (f : Fault) → IsFaultOf (chart_lines lines) (at p (suc k)) f → RefusesLine (chart_lines lines) p (refusal_of f (record { instance = p; index = k + 1 }))
    go NoSend none = (refl, subst (λ x. HasNoSend (chart_lines lines) (at p x)) (sym (add-one k)) none, λ i less. row_not_faulty lines p k row partners i (omega arith))
    go OtherName other = (refl, subst (λ x. HasOtherName (chart_lines lines) (at p x)) (sym (add-one k)) other, λ i less. row_not_faulty lines p k row partners i (omega arith))

module _ (lines : List LineView) where
  -- no receive of the first lines is faulty
  pub lines_not_faulty : (n : ℕ) (rows : List (List Partner)) → AreRows (IsPartner lines) (chart_lines lines) n rows → (d : Place) → d.instance ≤ n → IsFaulty (chart_lines lines) d → ⊥
  lines_not_faulty n rows are d le faulty =
      let event = faulty_event (chart_lines lines) d faulty in
      let w = instance_within lines d event in
      row_not_faulty lines (suc w.0) (length (chart_lines lines (suc w.0))) (get_or rows w.0 []) (are.each w.0 (omega arith)) d.index
      (subst (λ x. d.index ≤ length (chart_lines lines x)) w.1 event.1) (subst (λ x. IsFaulty (chart_lines lines) (at x d.index)) w.1 faulty)

  -- no sooner receive is faulty
  is_first : (p : ℕ) (rows : List (List Partner)) (r : EventNo) → AreRows (IsPartner lines) (chart_lines lines) p rows → r.instance ≡ suc p → ((i : ℕ) → i < r.index → IsFaulty (chart_lines lines) (at (suc p) i) → ⊥) → IsFirst (chart_lines lines) (place_of r)
  is_first p rows r are line first d (inl sooner) faulty = lines_not_faulty p rows are d (omega (arith, line)) faulty
  is_first p rows r are line first d (inr (same, less)) faulty = first d.index less (subst (λ x. IsFaulty (chart_lines lines) (at x d.index)) (same ∙ line) faulty)

  -- the first faulty receive of a line after good ones is the chart's first
  pub Refuses-from_line : (p : ℕ) (rows : List (List Partner)) (e : ChartError) → AreRows (IsPartner lines) (chart_lines lines) p rows → RefusesLine (chart_lines lines) (suc p) e → Refuses (chart_lines lines) e
  Refuses-from_line p rows (ReceiveWithoutSend r) are (line, fault, first) = (fault, is_first p rows r are line first)
  Refuses-from_line p rows (NameMismatch r) are (line, fault, first) = (fault, is_first p rows r are line first)
  Refuses-from_line p rows Cyclic are h = absurd h
  Refuses-from_line p rows Memory are h = tt

-- the next send along the same line
pub IsNextSend-same : (line other : List Event) (q r passed gone j : ℕ) → line ≡ other → q ≡ r → passed ≡ gone → IsNextSend line q passed j → IsNextSend other r gone j
IsNextSend-same line other q r passed gone j a b d next = subst (λ x. IsNextSend x r gone j) a (subst (λ x. IsNextSend line x gone j) b (subst (λ x. IsNextSend line q x j) d next))

-- no send is left along the same line
pub no_more : (line other : List Event) (q r passed gone : ℕ) → line ≡ other → q ≡ r → passed ≡ gone → count_by (is_send_to q) line ≡ tally (is_send_to q) line passed → count_by (is_send_to r) other ≡ tally (is_send_to r) other gone
no_more line other q r passed gone a b d e = subst (λ x. count_by (is_send_to r) x ≡ tally (is_send_to r) x gone) a (subst (λ x. count_by (is_send_to x) line ≡ tally (is_send_to x) line gone) b (subst (λ x. count_by (is_send_to q) line ≡ tally (is_send_to q) line x) d e))

-- if all events have partners, none is faulty
pub none_faulty : (lines : List LineView) (rows : List (List Partner)) → AreRows (IsPartner lines) (chart_lines lines) (length lines) rows → (r : Place) → IsFaulty (chart_lines lines) r → ⊥
none_faulty lines rows are r faulty =
    let w = instance_within lines r (faulty_event (chart_lines lines) r faulty) in
    lines_not_faulty lines (length lines) rows are r (omega (arith, w.1, w.2)) faulty
