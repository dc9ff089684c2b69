-- Facts about the events of a chart whose messages are level.
use Rattle.std.proofs.Common.{◌≡◌, ℕ, zero, suc, ◌<◌, ◌≤◌, ◌==◌, inl, inr, Bool, true, false, cond, List, [], ◌∷◌, None, Some, All, length, eqb-true, refl, sym, ap, ◌∙◌, subst, arith}
use Rattle.std.specs.Prelude.{slice_get, bytes_eq, slice_index_or}
use Rattle.std.proofs.Math.Path.{fun_ext}
use Rattle.std.proofs.lemmas.Bool.{false≢true, eq-eqb}
use Rattle.std.proofs.lemmas.Option.{none-some, same_Some, slice_get_cases, get_or_from_slice_get, slice_get_within}
use Rattle.std.proofs.lemmas.List.{get_or_past}
use Rattle.std.proofs.lemmas.List.FromFn.{length-range_with_len}
use Rattle.std.proofs.lemmas.List.Elements.{All-nil, All-cons, All-append}
use Rattle.std.proofs.lemmas.Slice.Eq.{bytes_eq-Decides}
use Rattle.chart.specs.declared.history.Occurrence.{Occurrence}
use Rattle.chart.specs.declared.history.Occurrence.TheVariants as occurrences
use Rattle.chart.specs.declared.event.Event.{Event}
use Rattle.chart.specs.declared.event.Event.TheVariants.{Send, Receive}
use Rattle.chart.specs.declared.instance.EventNo.{EventNo}
use Rattle.chart.specs.Charts.{Chart, Place, LineView, at, chart_event, chart_lines, BelongsTo, HasOtherName, IsLine, IsReceiveFrom, IsSendTo}
use Rattle.chart.specs.Events.{name_of, partner_of, region_of, is_send_to, is_receive_from, tally, send_event, receive_event}
use Rattle.chart.specs.Histories.{IsLegal, chart_of, line_gets, receive_of, waiting}
use Rattle.chart.specs.Messages.{Content}
use Rattle.chart.specs.Names.{IsName}
use Rattle.chart.proofs.Sends.{sends_of, none_of_other_name}
use Rattle.chart.proofs.Tally.{ith_at, tally-lt, tally_reached}
use Rattle.closure.specs.Faults.{place_of}
use Rattle.chart_layout.specs.Ends.{IsEnd}
use Rattle.chart_layout.specs.Layouts.{laid_out, row_on}
use Rattle.chart_layout.specs.declared.row.Row.{Row}
use Rattle.chart_layout.specs.declared.row.Row.TheVariants as rows
use Rattle.chart_layout.proofs.LaidOutLemmas.{number_on-own}
use Rattle.diagram_round_trip.specs.LevelCharts.{IsLevelChart}
use Rattle.diagram_round_trip.proofs.Lists.{Counts, counts_range, counts_has, Has, has_left, has_right, all_at}

-- each partner is an instance, from 1 on
pub partners_from_one : (n k : ℕ) (h : List Occurrence) → IsLegal n k h → (p : ℕ) → All (λ m. 1 ≤ partner_of m) (chart_of h p)
partners_from_one n k [] legal p = All-nil (λ m. 1 ≤ partner_of m)
partners_from_one n k (occurrences.Send a b m ∷ h) legal p = All-append (λ x. 1 ≤ partner_of x) (chart_of h p) (line_gets h p (occurrences.Send a b m)) (partners_from_one n k h legal.1 p) (go (a == p))
  where
    go : (mine : Bool) → All (λ x. 1 ≤ partner_of x) (cond mine (send_event b m.name ∷ []) [])
    go true = All-cons (λ x. 1 ≤ partner_of x) (send_event b m.name) [] legal.0.0.2 (All-nil (λ x. 1 ≤ partner_of x))
    go false = All-nil (λ x. 1 ≤ partner_of x)
partners_from_one n k (occurrences.Receive a b c ∷ h) legal p = All-append (λ x. 1 ≤ partner_of x) (chart_of h p) (line_gets h p (occurrences.Receive a b c)) (partners_from_one n k h legal.1 p) (go (a == p) (waiting h b a))
  where
    go : (mine : Bool) (ms : List Content) → All (λ x. 1 ≤ partner_of x) (cond mine (receive_of ms b c) [])
    go true [] = All-nil (λ x. 1 ≤ partner_of x)
    go true (m ∷ ms) = All-cons (λ x. 1 ≤ partner_of x) (receive_event b m.name c) [] legal.0.0.2 (All-nil (λ x. 1 ≤ partner_of x))
    go false ms = All-nil (λ x. 1 ≤ partner_of x)
partners_from_one n k (occurrences.Close a b ∷ h) legal p = All-append (λ x. 1 ≤ partner_of x) (chart_of h p) [] (partners_from_one n k h legal.1 p) (All-nil (λ x. 1 ≤ partner_of x))

-- the line of an event
pub record IsOn (lines : List LineView) (p i : ℕ) (m : Event) : Type 0 where
  pub place : ℕ
  pub line : LineView
  pub number : ℕ
  pub instance : p ≡ suc place
  pub index : i ≡ suc number
  pub here : slice_get lines place ≡ Some line
  pub event : slice_get line.events number ≡ Some m
  pub whole : chart_lines lines p ≡ line.events

pub on_line : (lines : List LineView) (p i : ℕ) (m : Event) → chart_event (chart_lines lines) (at p i) ≡ Some m → IsOn lines p i m
on_line lines zero zero m e = absurd (none-some m e)
on_line lines zero (suc i) m e = absurd (none-some m e)
on_line lines (suc p) zero m e = absurd (none-some m e)
on_line lines (suc p) (suc i) m e = elim (slice_get_cases lines p).1 [
  | inl w ↦
      let same : slice_index_or lines p (record { instance = suc p; events = [] }) ≡ w.0 = get_or_from_slice_get lines p w.0 (record { instance = suc p; events = [] }) w.2 in
      record { place = p; line = w.0; number = i; instance = refl; index = refl; here = w.2; event = subst (λ (l : LineView). slice_get l.events i ≡ Some m) same e; whole = ap (λ (l : LineView). l.events) same }
  | inr w ↦ absurd (none-some m (subst (λ (l : LineView). slice_get l.events i ≡ Some m) (get_or_past lines p (record { instance = suc p; events = [] }) w.0) e))
]

-- facts about an event
pub record IsKnown (n p : ℕ) (m : Event) : Type 0 where
  pub place : ℕ
  pub partner : ℕ
  pub instance : p ≡ suc place
  pub other : partner_of m ≡ suc partner
  pub within : place < n
  pub among : partner < n
  pub apart : place ≡ partner → ⊥
  pub name : IsName (name_of m)
  pub region : region_of m ≡ 0

from_one : (n : ℕ) → 1 ≤ n → (k : ℕ) × (n ≡ suc k)
from_one zero le = absurd (omega arith)
from_one (suc n) le = (n, refl)

module _ (names : List (List ℕ)) (lines : List LineView) (drawing : List Row) (is : IsLevelChart names lines drawing) where
  abbrev pub c : Chart
  c = chart_lines lines

  pub known : (p i : ℕ) (m : Event) → chart_event c (at p i) ≡ Some m → IsKnown (length lines) p m
  known p i m e =
      let on = on_line lines p i m e in
      let possible = is.possible in
      let numbered = is.chart.numbered on.place on.line on.here in
      let from_line = subst (All (λ x. 1 ≤ partner_of x)) (possible.3 p ∙ on.whole) (partners_from_one (length lines) possible.1 possible.0 possible.2 p) in
      let low = all_at (λ x. 1 ≤ partner_of x) on.line.events on.number m on.event from_line in
      let high = all_at (λ x. partner_of x ≤ length lines) on.line.events on.number m on.event (all_at (λ l. All (λ x. partner_of x ≤ length lines) l.events) lines on.place on.line on.here is.chart.partners) in
      let its_line = all_at IsLine lines on.place on.line on.here is.chart.each in
      let apart = its_line.partners on.number m on.event in
      let other = from_one (partner_of m) low in
      let within = slice_get_within lines on.place on.line on.here in
      let partner_is = other.1 in
      record {
        place = on.place;
        partner = other.0;
        instance = on.instance;
        other = other.1;
        within = within;
        among = omega arith;
        apart = λ same. apart (other.1 ∙ ap suc (sym same) ∙ sym numbered);
        name = all_at (λ x. IsName (name_of x)) on.line.events on.number m on.event (all_at (λ l. All (λ x. IsName (name_of x)) l.events) lines on.place on.line on.here is.messages);
        region = all_at (λ x. region_of x ≡ 0) on.line.events on.number m on.event (all_at (λ l. All (λ x. region_of x ≡ 0) l.events) lines on.place on.line on.here is.regions);
      }

  -- a receive has a send, which has its name
  sends : (q : ℕ) (r : Place) → IsReceiveFrom c q r → (s : Place) × BelongsTo c s r
  sends q r from =
      let possible = is.possible in
      let same = fun_ext possible.3 in
      let w = sends_of (length lines) possible.1 possible.0 possible.2 q r (subst (λ d. IsReceiveFrom d q r) (sym same) from) in
      (w.0, subst (λ d. BelongsTo d w.0 r) same w.1)

  same_names : (s r : Place) (m n : Event) → BelongsTo c s r → chart_event c s ≡ Some m → chart_event c r ≡ Some n → name_of m ≡ name_of n
  same_names s r m n b e f = go (bytes_eq (name_of m) (name_of n)) refl
    where
      other : HasOtherName c r → ⊥
      other h = let possible = is.possible in none_of_other_name (length lines) possible.1 possible.0 possible.2 r (subst (λ d. HasOtherName d r) (sym (fun_ext possible.3)) h)

      go : (its : Bool) → bytes_eq (name_of m) (name_of n) ≡ its → name_of m ≡ name_of n
      go true same = (bytes_eq-Decides (name_of m) (name_of n)).0 same
      go false apart = absurd (other (s, m, n, b, e, f, λ same. false≢true (sym apart ∙ (bytes_eq-Decides (name_of m) (name_of n)).1 same)))

  -- a message that is level
  pub record IsMessage (s r : EventNo) : Type 0 where
    pub from : ℕ
    pub to : ℕ
    pub name : List ℕ
    pub sender : s.instance ≡ suc from
    pub receiver : r.instance ≡ suc to
    pub within : from < length lines
    pub among : to < length lines
    pub apart : from ≡ to → ⊥
    pub is_name : IsName name
    pub sent : chart_event c (place_of s) ≡ Some (Send (suc to) name)
    pub taken : chart_event c (place_of r) ≡ Some (Receive (suc from) name 0)

  pub message : (s r : EventNo) → BelongsTo c (place_of s) (place_of r) → IsMessage s r
  message s r b = go b.sent.0 b.received.0 b.sent.1 b.sent.2 b.received.1 b.received.2
    where
      go : (m n : Event) → chart_event c (place_of s) ≡ Some m → is_send_to r.instance m ≡ true → chart_event c (place_of r) ≡ Some n → is_receive_from s.instance n ≡ true → IsMessage s r
      go (Receive from name region) n e t f u = absurd (false≢true t)
      go (Send to name) (Send to' name') e t f u = absurd (false≢true u)
      go (Send to name) (Receive from name' region) e t f u =
          let k = known s.instance s.index (Send to name) e in
          let l = known r.instance r.index (Receive from name' region) f in
          let same = same_names (place_of s) (place_of r) (Send to name) (Receive from name' region) b e f in
          record {
            from = k.place;
            to = k.partner;
            name = name;
            sender = k.instance;
            receiver = sym (eqb-true to r.instance t) ∙ k.other;
            within = k.within;
            among = k.among;
            apart = k.apart;
            is_name = k.name;
            sent = e ∙ ap (λ x. Some (Send x name)) k.other;
            taken = f ∙ ap (λ x. Some (Receive x name' region)) (eqb-true from s.instance u ∙ k.instance) ∙ ap (λ x. Some (Receive (suc k.place) x region)) (sym same) ∙ ap (λ x. Some (Receive (suc k.place) name x)) l.region;
          }

  -- a lost send
  pub record IsLost (e : EventNo) : Type 0 where
    pub from : ℕ
    pub to : ℕ
    pub name : List ℕ
    pub sender : e.instance ≡ suc from
    pub within : from < length lines
    pub among : to < length lines
    pub apart : from ≡ to → ⊥
    pub is_name : IsName name
    pub sent : chart_event c (place_of e) ≡ Some (Send (suc to) name)

  lost_at : (e : EventNo) (m : Event) → chart_event c (place_of e) ≡ Some m → IsEnd c (place_of e) None → IsLost e
  lost_at e (Receive from name region) at_e alone =
      let w = sends from (place_of e) (Receive from name region, at_e, eq-eqb from from refl) in absurd (alone.0 w.0 w.1)
  lost_at e (Send to name) at_e alone =
      let k = known e.instance e.index (Send to name) at_e in
      record {
        from = k.place;
        to = k.partner;
        name = name;
        sender = k.instance;
        within = k.within;
        among = k.among;
        apart = k.apart;
        is_name = k.name;
        sent = at_e ∙ ap (λ x. Some (Send x name)) k.other;
      }

  pub counts : (p : ℕ) → Counts 1 (laid_out drawing p)
  counts p = subst (Counts 1) (sym (is.laid_out.order p)) (counts_range 1 (length (c p)))

  pub has_laid_out : (some : List Row) (i : ℕ) (row : Row) (p x : ℕ) → slice_get some i ≡ Some row → Has (row_on p row) x → Has (laid_out some p) x
  has_laid_out [] i row p x e h = absurd (none-some row e)
  has_laid_out (first ∷ some) zero row p x e h = has_left (row_on p first) (laid_out some p) x (subst (λ r. Has (row_on p r) x) (sym (same_Some first row e)) h)
  has_laid_out (first ∷ some) (suc i) row p x e h = has_right (row_on p first) (laid_out some p) x (has_laid_out some i row p x e h)

  pub lost : (i : ℕ) (e : EventNo) → slice_get drawing i ≡ Some (rows.Event e) → IsLost e
  lost i e here =
      let its = has_laid_out drawing i (rows.Event e) e.instance e.index here (subst (λ l. Has l e.index) (sym (number_on-own e.instance e refl)) (inl refl)) in
      let w = counts_has 1 (laid_out drawing e.instance) e.index (counts e.instance) its in
      let long : length (laid_out drawing e.instance) ≡ length (c e.instance) = ap length (is.laid_out.order e.instance) ∙ length-range_with_len 1 (length (c e.instance)) in
      let low = w.0 in
      let high = w.1 in
      let m = ith_at (c e.instance) e.index low (omega arith) in
      lost_at e m.0 m.1 (is.level i e here)

  -- after a lost send no message of its lane is received
  pub stays_lost : (e s r : EventNo) (q : ℕ) → IsSendTo c q (place_of e) → IsEnd c (place_of e) None → BelongsTo c (place_of s) (place_of r) → s.instance ≡ e.instance → r.instance ≡ q → e.index < s.index → ⊥
  stays_lost e s r q sends_to alone b same_line to less =
      let mine = subst (λ x. IsSendTo c x (place_of e)) (sym to) sends_to in
      let line = subst (λ x. IsSendTo c r.instance (at x s.index)) same_line b.sent in
      let before = tally-lt (is_send_to r.instance) (c e.instance) e.index s.index less line in
      let first = tally-lt (is_send_to r.instance) (c e.instance) 0 e.index (from_first e.index mine) mine in
      let turn : tally (is_send_to r.instance) (c e.instance) s.index ≡ tally (is_receive_from e.instance) (c r.instance) r.index = subst (λ x. tally (is_send_to r.instance) (c x) s.index ≡ tally (is_receive_from x) (c r.instance) r.index) same_line b.turn in
      let found = tally_reached (is_receive_from e.instance) (c r.instance) (tally (is_send_to r.instance) (c e.instance) e.index) r.index (omega arith) (omega arith) in
      alone.1 (at r.instance found.0) (record { sent = mine; received = found.2; turn = sym found.3 })
    where
      from_first : (i : ℕ) → IsSendTo c r.instance (at e.instance i) → 0 < i
      from_first zero (m, at_zero, t) = absurd (none-some m at_zero)
      from_first (suc i) sends_here = omega arith
