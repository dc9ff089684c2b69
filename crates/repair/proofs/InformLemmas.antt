-- The message that informs of a race's earlier event: its lines may have it, and the chart with it is as it should be.
use Rattle.std.proofs.Common.{◌≡◌, ◌≢◌, ℕ, zero, suc, ◌+◌, ◌-◌, ◌<◌, ◌≤◌, ◌==◌, inl, inr, true, false, cond, List, [], length, map, get_or, Some, refl, sym, ap, ap₂, ◌∙◌, subst, arith, eq-eqb, eqb-true}
use Rattle.std.specs.Prelude.{slice_get}
use Rattle.std.specs.List.{insert}
use Rattle.std.proofs.lemmas.Bool.{cases_lt, cases_Bool, false≢true}
use Rattle.std.proofs.lemmas.Bool.Decides.{eqb_tells}
use Rattle.std.proofs.lemmas.Option.{same_Some, slice_get_within, get_or_from_slice_get, slice_get-get_or}
use Rattle.std.proofs.lemmas.List.{get_or-map, length-map}
use Rattle.chart.specs.declared.event.Event.{Event}
use Rattle.chart.specs.declared.event.Event.TheVariants.{Send, Receive}
use Rattle.chart.specs.declared.line.TheConstants.{MAX_EVENTS}
use Rattle.chart.specs.Events.{ith, tally, is_in, is_send_to, is_receive_from, partner_of, region_of, send_event, receive_event}
use Rattle.chart.specs.Charts.{Chart, Place, at, chart_event, LineView, IsNumbered, IsPossible, chart_lines}
use Rattle.chart.specs.Order.{Before, IsCyclic, region_of_event}
use Rattle.chart.specs.Places.{IsEvent}
use Rattle.chart.proofs.Belongs.{IsEvent-from_passes}
use Rattle.chart.proofs.InRegions.{region_of-in, none_in}
use Rattle.closure.specs.Closures.{IsPossibleChart}
use Rattle.closure.specs.Faults.{IsFaulty}
use Rattle.closure.proofs.ReadLemmas.{empty_line, instance_within, partner_other, line_short}
use Rattle.repair.specs.Messages.{NewMessage, IsWith, CanInform, informing, NoMessage}
use Rattle.repair.specs.Growing.{line_with, CanHave, AllCanHave}
use Rattle.repair.specs.Mends.{IsAsked, IsMended}
use Rattle.repair.specs.Crossings.{IsBeforeNone}
use Rattle.repair.proofs.Moving.{kept, was_kept, before_moved, race_was}
use Rattle.repair.proofs.Mended.{can_inform, none_unsent, informed_turn, no_fault_informed, no_cycle_informed, belongs_informed, before_informed}

-- The lines with the message are the chart with it.
module _ (m : NewMessage) (lines : List LineView) (numbered : IsNumbered lines) where
  abbrev old : Chart
  old = chart_lines lines

  abbrev new : Chart
  new = chart_lines (map (line_with m) lines)

  abbrev events_with : ℕ → List Event
  events_with x = cond (x == m.sender) (insert (old x) m.sent (send_event m.receiver m.name)) (cond (x == m.receiver) (insert (old x) m.received (receive_event m.sender m.name m.region)) (old x))

  line_at : (p : ℕ) → p < length lines → new (suc p) ≡ events_with (suc p)
  line_at p within =
      let none : LineView = record { instance = suc p; events = [] } in
      let l = get_or lines p none in
      let number = numbered p l (slice_get-get_or lines p none within) in
      ap (λ (x : LineView). x.events) (get_or-map (line_with m) lines p none none within)
      ∙ ap (λ n. cond (n == m.sender) (insert l.events m.sent (send_event m.receiver m.name)) (cond (n == m.receiver) (insert l.events m.received (receive_event m.sender m.name m.region)) l.events)) number

  at_line : (x p : ℕ) → x ≡ suc p → p < length lines → new x ≡ events_with x
  at_line x p is within = subst (λ y. new y ≡ events_with y) (sym is) (line_at p within)

  pub is_with : m.sender ≢ m.receiver → (p q : ℕ) → m.sender ≡ suc p → p < length lines → m.receiver ≡ suc q → q < length lines → m.sent ≤ length (old m.sender) → m.received ≤ length (old m.receiver) → IsWith m old new
  is_with two p q sender low receiver high sent received = record {
    two = two;
    sent_within = sent;
    received_within = received;
    send = at_line m.sender p sender low ∙ ap (λ b. cond b (insert (old m.sender) m.sent (send_event m.receiver m.name)) (cond (m.sender == m.receiver) (insert (old m.sender) m.received (receive_event m.sender m.name m.region)) (old m.sender))) (eq-eqb m.sender m.sender refl);
    receive = at_line m.receiver q receiver high ∙ off m.receiver (λ same. two (sym same)) ∙ ap (λ b. cond b (insert (old m.receiver) m.received (receive_event m.sender m.name m.region)) (old m.receiver)) (eq-eqb m.receiver m.receiver refl);
    others = other;
  }
    where
      off : (x : ℕ) → x ≢ m.sender → events_with x ≡ cond (x == m.receiver) (insert (old x) m.received (receive_event m.sender m.name m.region)) (old x)
      off x differs = elim (eqb_tells x m.sender) [
        | inl w ↦ absurd (differs w.1)
        | inr w ↦ ap (λ b. cond b (insert (old x) m.sent (send_event m.receiver m.name)) (cond (x == m.receiver) (insert (old x) m.received (receive_event m.sender m.name m.region)) (old x))) w.0
      ]

      off_both : (x : ℕ) → x ≢ m.sender → x ≢ m.receiver → events_with x ≡ old x
      off_both x a b = off x a ∙ elim (eqb_tells x m.receiver) [
        | inl w ↦ absurd (b w.1)
        | inr w ↦ ap (λ t. cond t (insert (old x) m.received (receive_event m.sender m.name m.region)) (old x)) w.0
      ]

      other : (x : ℕ) → x ≢ m.sender → x ≢ m.receiver → new x ≡ old x
      other zero a b = refl
      other (suc i) a b = elim (cases_lt i (length lines)) [
        | inl within ↦ line_at i within ∙ off_both (suc i) a b
        | inr past ↦ empty_line (map (line_with m) lines) i (omega (arith, past, length-map lines (line_with m))) ∙ sym (empty_line lines i past)
      ]

-- a send's partner is whom it is to
send_partner : (q : ℕ) (x : Event) → is_send_to q x ≡ true → partner_of x ≡ q
send_partner q (Send to name) sends = eqb-true to q sends
send_partner q (Receive from name region) sends = absurd (false≢true sends)

send_outside : (q : ℕ) (x : Event) → is_send_to q x ≡ true → region_of x ≡ 0
send_outside q (Send to name) sends = refl
send_outside q (Receive from name region) sends = absurd (false≢true sends)

-- Of a race that is asked about, in a possible chart:
module _ (lines : List LineView) (possible : IsPossibleChart lines) (e r s : Place) (k : ℕ) (asked : IsAsked (chart_lines lines) e r s k) where
  -- its send is an event, after whose line the receive's is another
  pub send_event_at : IsEvent (chart_lines lines) s
  send_event_at = IsEvent-from_passes (chart_lines lines) (is_send_to r.instance) s asked.belongs.sent

  pub two_lines : e.instance ≢ s.instance
  two_lines same =
      let there = instance_within lines s send_event_at in
      let sends = asked.belongs.sent in
      let low = send_event_at.0 in
      let here : s ≡ at (suc there.0) (suc (s.index - 1)) = ap (λ p. at p s.index) there.1 ∙ ap (at (suc there.0)) (let n : s.index ≡ suc (s.index - 1) = omega arith in n) in
      partner_other lines there.0 (s.index - 1) sends.0 possible.chart there.2 (subst (λ x. chart_event (chart_lines lines) x ≡ Some sends.0) here sends.1)
      (send_partner r.instance sends.0 sends.2 ∙ sym asked.race.earlier.line ∙ same ∙ there.1)

  -- the earlier event is one
  pub earlier_event : IsEvent (chart_lines lines) e
  earlier_event =
      let has = asked.ends.has in
      let within = asked.ends.within in
      (asked.race.earlier.begun, omega arith)

  -- the k-th event is in the earlier one's coregion, or is that
  last_region : (x : Event) → ith (chart_lines lines e.instance) k ≡ Some x → (y : Event) → ith (chart_lines lines e.instance) (k + 1) ≡ Some y → is_in (region_of x) y ≡ false
  last_region x at_x y at_y = elim (cases_lt e.index k) [
    | inl less ↦
        let same = region_of-in (region_of_event (ith (chart_lines lines e.instance) e.index)) x (asked.ends.inside k x less (omega arith) at_x) in
        subst (λ c. is_in c y ≡ false) (sym same) (asked.ends.ends y at_y)
    | inr le ↦
        let has = asked.ends.has in
        let here : k ≡ e.index = omega arith in
        let same = ap region_of_event (ap (ith (chart_lines lines e.instance)) (sym here) ∙ at_x) in
        subst (λ c. is_in c y ≡ false) same (asked.ends.ends y at_y)
  ]

  -- both lines may have the message, where they aren't full
  module _ (name : List ℕ) (mine : length (chart_lines lines e.instance) ≢ MAX_EVENTS) (theirs : length (chart_lines lines s.instance) ≢ MAX_EVENTS) where
    line_of : (i : ℕ) (l : LineView) → slice_get lines i ≡ Some l → (l.instance ≡ suc i) × (l.events ≡ chart_lines lines l.instance) × (length (chart_lines lines l.instance) ≤ MAX_EVENTS)
    line_of i l here =
        let none : LineView = record { instance = suc i; events = [] } in
        let number = possible.chart.numbered i l here in
        let its : l.events ≡ chart_lines lines (suc i) = sym (ap (λ (x : LineView). x.events) (get_or_from_slice_get lines i l none here)) in
        let short = line_short lines i possible.chart (slice_get_within lines i l here) in
        (number, its ∙ ap (chart_lines lines) (sym number), subst (λ p. length (chart_lines lines p) ≤ MAX_EVENTS) (sym number) short)

    pub have_informed : AllCanHave (informing e.instance k s name) lines
    have_informed i l here = by (line_of i l here)
      where
        by : (l.instance ≡ suc i) × (l.events ≡ chart_lines lines l.instance) × (length (chart_lines lines l.instance) ≤ MAX_EVENTS) → CanHave (informing e.instance k s name) l
        by (number, its, short) = record {
          send = λ is.
              let line = its ∙ ap (chart_lines lines) is in
              record {
                within = subst (λ xs. k ≤ length xs) (sym line) asked.ends.within;
                room = let e1 = ap (λ xs. length xs) its in let e2 = ap (λ xs. length xs) line in elim (cases_lt (length l.events) MAX_EVENTS) [ inl less ↦ less | inr full ↦ absurd (mine (sym e2 ∙ omega (arith, full, e1, short))) ];
                partner = λ same. two_lines (sym is ∙ sym same);
                outside = refl;
                uncut = λ x y at_x at_y. last_region x (ap (λ xs. ith xs k) (sym line) ∙ at_x) y (ap (λ xs. ith xs (k + 1)) (sym line) ∙ at_y);
              };
          receive = λ is.
              let line = its ∙ ap (chart_lines lines) is in
              let low = send_event_at in
              let sends = asked.belongs.sent in
              record {
                within = subst (λ xs. s.index - 1 ≤ length xs) (sym line) (omega (arith, low.0, low.1));
                room = let e1 = ap (λ xs. length xs) its in let e2 = ap (λ xs. length xs) line in elim (cases_lt (length l.events) MAX_EVENTS) [ inl less ↦ less | inr full ↦ absurd (theirs (sym e2 ∙ omega (arith, full, e1, short))) ];
                partner = λ same. two_lines (same ∙ is);
                outside = refl;
                uncut = λ x y at_x at_y.
                    let is_s : y ≡ sends.0 = same_Some y sends.0 (sym at_y ∙ ap (λ xs. ith xs (s.index - 1 + 1)) line ∙ ap (ith (chart_lines lines s.instance)) (let n : s.index - 1 + 1 ≡ s.index = omega (arith, low.0) in n) ∙ sends.1) in
                    elim (cases_Bool (is_in (region_of x) y)) [
                      | inl inside ↦ absurd (none_in (region_of x) y (ap region_of is_s ∙ send_outside r.instance sends.0 sends.2) inside)
                      | inr out ↦ out
                    ];
              };
        }

    pub with_informed : IsWith (informing e.instance k s name) (chart_lines lines) (chart_lines (map (line_with (informing e.instance k s name)) lines))
    with_informed =
        let a = instance_within lines e earlier_event in
        let b = instance_within lines s send_event_at in
        let low = send_event_at in
        is_with (informing e.instance k s name) lines possible.chart.numbered two_lines a.0 b.0 a.1 a.2 b.1 b.2 asked.ends.within (omega (arith, low.0, low.1))

    -- so the chart that was made is the chart with the message
    pub with_chart : (m : NewMessage) (given chart : List LineView) → m ≡ informing e.instance k s name → given ≡ lines → chart ≡ map (line_with m) given → IsWith (informing e.instance k s name) (chart_lines lines) (chart_lines chart)
    with_chart m given chart is same made =
        subst (λ l. IsWith (informing e.instance k s name) (chart_lines lines) (chart_lines l)) (sym (made ∙ ap₂ (λ x l. map (line_with x) l) is same)) with_informed

  -- where s is before one of the first k events, or a message among them is on its way, no message does
  pub none_crossed : (i : ℕ) → i ≤ k → Before (chart_lines lines) s (at e.instance i) → NoMessage (length lines) (chart_lines lines) e.instance s.instance e r
  none_crossed i low crosses m d from to w new mine before =
      (can_inform (length lines) (chart_lines lines) e r s k possible.possible asked.race asked.belongs asked.ends m d from to w new mine before).uncrossed i low crosses

  pub none_waiting : tally (is_receive_from e.instance) (chart_lines lines s.instance) s.index < tally (is_send_to s.instance) (chart_lines lines e.instance) k → NoMessage (length lines) (chart_lines lines) e.instance s.instance e r
  none_waiting more m d from to w new mine before =
      let turn = (can_inform (length lines) (chart_lines lines) e r s k possible.possible asked.race asked.belongs asked.ends m d from to w new mine before).in_turn in
      omega (arith, turn, more)

  -- and else it can be informed of them
  pub can_be_informed : IsBeforeNone (chart_lines lines) s e.instance k → tally (is_send_to s.instance) (chart_lines lines e.instance) k ≤ tally (is_receive_from e.instance) (chart_lines lines s.instance) s.index → CanInform (chart_lines lines) e.instance k s
  can_be_informed uncrossed few = record {
    uncrossed = uncrossed;
    in_turn = elim (cases_lt (tally (is_send_to s.instance) (chart_lines lines e.instance) k) (tally (is_receive_from e.instance) (chart_lines lines s.instance) s.index)) [
      | inl less ↦ absurd (none_unsent (length lines) (chart_lines lines) e r s k possible.possible asked.race asked.belongs asked.ends less)
      | inr le ↦ omega (arith, few, le)
    ];
  }

  -- the chart with the message that informs is as it should be
  module _ (name : List ℕ) (can : CanInform (chart_lines lines) e.instance k s) (d : Chart) (w : IsWith (informing e.instance k s name) (chart_lines lines) d) where
    pub faultless_informed : (x : Place) → IsFaulty d x → ⊥
    faultless_informed = no_fault_informed (length lines) (chart_lines lines) d e r s k name possible.possible asked.race asked.belongs asked.ends can w

    pub acyclic_informed : IsCyclic d → ⊥
    acyclic_informed = no_cycle_informed (length lines) (chart_lines lines) d e r s k name possible.possible asked.race asked.belongs asked.ends can w

    pub mended_informed : IsPossible (length lines) d → IsMended (length lines) (chart_lines lines) e r (informing e.instance k s name) d
    mended_informed new =
        let t = informing e.instance k s name in
        let c = chart_lines lines in
        let turn = informed_turn (length lines) c d e r s k name possible.possible asked.race asked.belongs asked.ends can w in
        record {
          added = w;
          possible = new;
          belongs = belongs_informed (length lines) c d e r s k name possible.possible asked.race asked.belongs asked.ends can w;
          kept = λ x y. (kept t c d w turn x y, was_kept t c d w turn x y);
          order = λ x y before. before_moved t c d w turn before;
          races = λ x y race. race_was t c d w turn x y race;
          enforced = before_informed (length lines) c d e r s k name possible.possible asked.race asked.belongs asked.ends can w;
        }
