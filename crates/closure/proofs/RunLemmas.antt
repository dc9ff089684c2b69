-- The events that were made are those of a legal history; if no more can be made, the order has a cycle.
use Rattle.std.proofs.Common.{◌≡◌, ◌≢◌, ℕ, zero, suc, ◌+◌, ◌-◌, ◌<◌, ◌≤◌, ◌⊎◌, inl, inr, Bool, true, false, List, [], ◌∷◌, ◌++◌, length, set, take, drop, count_by, Some, refl, sym, ap, ap₂, ◌∙◌, subst, arith, eqb-true, take_all, take-append-drop, length-take, replicate}
use Rattle.std.specs.Prelude.{slice_index, MatchBool}
use Rattle.std.proofs.lemmas.Bool.{cases_lt, cases_eq, false≢true}
use Rattle.std.proofs.lemmas.List.{length-drop, get_or-set_same, get_or-set_other, get_or-replicate, get_or_past, length-replicate}
use Rattle.std.proofs.lemmas.List.Sums.{count_by-le-length}
use Rattle.chart.specs.declared.history.Occurrence.{Occurrence}
use Rattle.chart.specs.declared.history.Occurrence.TheVariants.{Send as Sends, Receive as Receives}
use Rattle.chart.specs.declared.event.Event.{Event}
use Rattle.chart.specs.declared.event.Event.TheVariants.{Send, Receive}
use Rattle.chart.specs.declared.line.TheConstants.{MAX_EVENTS}
use Rattle.chart.specs.Messages.{Content}
use Rattle.chart.specs.Events.{ith, tally, is_send_to, is_receive_from, send_event, receive_event, MayHaveRegion}
use Rattle.chart.specs.Histories.{by, sent, received, waiting, is_closed, chart_of, MayFollow, IsLegal}
use Rattle.chart.specs.Charts.{Chart, at, chart_event, LineView, IsChart, IsSendTo, BelongsTo, IsPossible, chart_lines}
use Rattle.chart.specs.Order.{Before, IsCyclic}
use Rattle.chart.specs.Order.Direct.{message, to_send}
use Rattle.chart.specs.Order.Before.{direct, through}
use Rattle.chart.proofs.Tally.{Passes, tally-le, tally-append, same_from_tally, ith_within, ith_from_take}
use Rattle.chart.proofs.Belongs.{IsEvent-from_passes}
use Rattle.chart.proofs.Lanes.{sent_count, received_count, send_of_first}
use Rattle.chart.proofs.Sends.{line_after_send, line_after_receive}
use Rattle.chart.proofs.Steps.{line_of_other}
use Rattle.closure.specs.Rows.{entry}
use Rattle.closure.specs.Links.{HasSameName}
use Rattle.closure.specs.Runs.{next_of, IsReady, IsStopped, AreStopped}
use Rattle.closure.proofs.ReadLemmas.{empty_line, front_next, line_short, partner_other}
use Rattle.closure.proofs.LinkLemmas.{tally_pass}
use Rattle.closure.proofs.Cycles.{cycle, HasCycle}

-- a legal history without closes made these events of each line
pub record IsMade (n : ℕ) (c : Chart) (made : List ℕ) : Type 0 where
  pub history : List Occurrence
  pub legal : IsLegal n MAX_EVENTS history
  pub never_closed : (p q : ℕ) → is_closed history p q ≡ false
  pub chart : (p : ℕ) → chart_of history p ≡ take (entry made p) (c p)

-- how many events of the first n lines are left
abbrev pub left : Chart → ℕ → List ℕ → ℕ
left c zero made = 0
left c (suc n) made = left c n made + (length (c (suc n)) - slice_index made n)

-- an event of a later line leaves them as they are
left-other : (c : Chart) (n p m : ℕ) (made : List ℕ) → n ≤ p → left c n (set made p m) ≡ left c n made
left-other c zero p m made h = refl
left-other c (suc n) p m made h =
    let before = left-other c n p m made (omega arith) in
    let differs : n ≢ p = omega arith in
    let same = get_or-set_other made p n m 0 differs in
    omega (arith, same, before)

-- making some more events leaves fewer
pub left-raised : (c : Chart) (n p m : ℕ) (made : List ℕ) → p < n → p < length made → slice_index made p < m → m ≤ length (c (suc p)) → left c n (set made p m) < left c n made
left-raised c zero p m made h inside more most = absurd (omega arith)
left-raised c (suc n) p m made h inside more most =
    elim (cases_eq n p) [
      | inl e ↦
          subst (λ x. left c (suc n) (set made x m) < left c (suc n) made) e
          (let others = left-other c n n m made (omega arith) in
          let new = get_or-set_same made n m 0 (omega arith) in
          let few : slice_index made n < m = subst (λ x. slice_index made x < m) (sym e) more in
          let line : m ≤ length (c (suc n)) = subst (λ x. m ≤ length (c (suc x))) (sym e) most in
          omega (arith, others, new, few, line))
      | inr differs ↦
          let fewer = left-raised c n p m made (omega arith) inside more most in
          let same = get_or-set_other made p n m 0 differs in
          omega (arith, same, fewer)
    ]

-- making one more event leaves fewer
pub left-less : (c : Chart) (n p : ℕ) (made : List ℕ) → p < n → p < length made → slice_index made p < length (c (suc p)) → left c n (set made p (slice_index made p + 1)) < left c n made
left-less c n p made h inside more = left-raised c n p (slice_index made p + 1) made h inside (omega arith) (omega arith)

-- up to a place of a front there are as many as on the line
tally_front : (test : Event → Bool) (m : ℕ) (xs : List Event) (i : ℕ) → i ≤ length (take m xs) → tally test (take m xs) i ≡ tally test xs i
tally_front test m xs i h = sym (tally-append test (take m xs) (drop m xs) i h) ∙ ap (λ ys. tally test ys i) (take-append-drop m xs)

-- the numbers of the other lines after one number was raised
pub entry-raised : (made : List ℕ) (p m r : ℕ) → r ≢ suc p → entry (set made p m) r ≡ entry made r
entry-raised made p m zero differs = refl
entry-raised made p m (suc r) differs = get_or-set_other made p r m 0 (λ e. differs (ap suc e))

-- at first nothing was made
pub IsMade-none : (n m : ℕ) (c : Chart) → IsMade n c (replicate m 0)
IsMade-none n m c = record {
  history = [];
  legal = tt;
  never_closed = λ p q. refl;
  chart = λ p. sym (ap (λ k. take k (c p)) (zeros p));
}
  where
    zeros : (p : ℕ) → entry (replicate m 0) p ≡ 0
    zeros zero = refl
    zeros (suc p) =
        elim (cases_lt p m) [
          | inl within ↦ get_or-replicate m p 0 0 within
          | inr past ↦ get_or_past (replicate m 0) p 0 (rw length-replicate past)
        ]

module _ (lines : List LineView) (made : List ℕ) (p : ℕ) (chart : IsChart lines) (same : length made ≡ length lines) (old : IsMade (length lines) (chart_lines lines) made) (inside : p < length lines)
    (within : slice_index made p < length (chart_lines lines (suc p))) where
  abbrev n : ℕ
  n = length lines

  abbrev c : Chart
  c = chart_lines lines

  abbrev k : ℕ
  k = slice_index made p

  -- the line so far is short
  room : length (chart_of old.history (suc p)) < MAX_EVENTS
  room = let most = line_short lines p chart inside in omega (arith, ap length (old.chart (suc p)), length-take k (c (suc p)))

  -- this event of the line was made
  IsMade-by : (e : Occurrence) (m : Event) → by e ≡ suc p → chart_event c (next_of made p) ≡ Some m → MayFollow n MAX_EVENTS old.history e → ((a b : ℕ) → is_closed (e ∷ old.history) a b ≡ false) → chart_of (e ∷ old.history) (suc p) ≡ chart_of old.history (suc p) ++ m ∷ [] → IsMade n c (set made p (k + 1))
  IsMade-by e m its is follows never line = record {
    history = e ∷ old.history;
    legal = (follows, old.legal);
    never_closed = never;
    chart = λ r. elim (cases_eq r (suc p)) [
      | inl here ↦
          subst (λ x. chart_of (e ∷ old.history) x ≡ take (entry (set made p (k + 1)) x) (c x)) (sym here)
          (line ∙ ap (λ xs. xs ++ m ∷ []) (old.chart (suc p)) ∙ sym (front_next (c (suc p)) k m is) ∙ ap (λ i. take i (c (suc p))) (sym (get_or-set_same made p (k + 1) 0 (omega arith))))
      | inr other ↦ line_of_other old.history e r (λ x. other (sym x ∙ its)) ∙ old.chart r ∙ ap (λ i. take i (c r)) (sym (entry-raised made p (k + 1) r other))
    ];
  }

  -- a send
  IsMade-send : (q : ℕ) → q < n → IsSendTo c (suc q) (next_of made p) → IsMade n c (set made p (k + 1))
  IsMade-send q q_in (m, is, sends) = go m is sends
    where
      go : (x : Event) → chart_event c (next_of made p) ≡ Some x → is_send_to (suc q) x ≡ true → IsMade n c (set made p (k + 1))
      go (Receive from name region) at_x fails = absurd (false≢true fails)
      go (Send to name) at_x passes =
          let goes : to ≡ suc q = eqb-true to (suc q) passes in
          let other = partner_other lines p k (Send to name) chart inside at_x in
          let x : Content = record { name = name; body = [] } in
          let many = count_by-le-length (is_send_to to) (chart_of old.history (suc p)) in
          IsMade-by (Sends (suc p) to x) (Send to name) refl at_x
          ((omega arith, omega arith, omega arith, omega arith, λ e. other (sym e)), old.never_closed (suc p) to, omega (arith, room, many, sent_count old.history (suc p) to, length-drop (received old.history (suc p) to) (sent old.history (suc p) to)), room)
          old.never_closed (line_after_send old.history (suc p) to x)

  -- a receive of a send that was made
  IsMade-receive : (q j : ℕ) → q < n → BelongsTo c (at (suc q) j) (next_of made p) → HasSameName c (at (suc q) j) (next_of made p) → j ≤ slice_index made q → IsMade n c (set made p (k + 1))
  IsMade-receive q j q_in belongs names was_made = go belongs.received.0 belongs.received.1 belongs.received.2
    where
      -- the number of received messages, which is less than that of the sent ones
      got : received old.history (suc q) (suc p) ≡ tally (is_receive_from (suc q)) (c (suc p)) k
      got = sym (received_count n MAX_EVENTS old.history old.legal (suc q) (suc p)) ∙ ap (count_by (is_receive_from (suc q))) (old.chart (suc p))

      turn : tally (is_send_to (suc p)) (c (suc q)) j ≡ tally (is_receive_from (suc q)) (c (suc p)) k + 1
      turn = belongs.turn ∙ tally_pass (is_receive_from (suc q)) (c (suc p)) k belongs.received

      some : 0 < length (waiting old.history (suc q) (suc p))
      some =
          let gone : length (sent old.history (suc q) (suc p)) ≡ tally (is_send_to (suc p)) (c (suc q)) (slice_index made q) = sym (sent_count old.history (suc q) (suc p)) ∙ ap (count_by (is_send_to (suc p))) (old.chart (suc q)) in
          let more = tally-le (is_send_to (suc p)) (c (suc q)) j (slice_index made q) was_made in
          omega (arith, length-drop (received old.history (suc q) (suc p)) (sent old.history (suc q) (suc p)), gone, more, got, turn)

      -- the first message that waits was sent by this send
      its_send : (x : Content) (rest : List Content) → waiting old.history (suc q) (suc p) ≡ x ∷ rest → chart_event c (at (suc q) j) ≡ Some (send_event (suc p) x.name)
      its_send x rest first =
          let w = send_of_first old.history (suc q) (suc p) x rest first in
          let made_q = slice_index made q in
          let on_front : ith (take made_q (c (suc q))) w.0 ≡ Some (send_event (suc p) x.name) = subst (λ xs. ith xs w.0 ≡ Some (send_event (suc p) x.name)) (old.chart (suc q)) w.2 in
          let on_line = ith_from_take made_q (c (suc q)) w.0 (send_event (suc p) x.name) on_front in
          let passes = subst (λ xs. Passes (is_send_to (suc p)) xs w.0) (old.chart (suc q)) w.1.0 in
          let passes_there : Passes (is_send_to (suc p)) (c (suc q)) w.0 = (passes.0, (ith_from_take made_q (c (suc q)) w.0 passes.0 passes.1).1, passes.2) in
          let number : tally (is_send_to (suc p)) (take made_q (c (suc q))) w.0 ≡ received old.history (suc q) (suc p) + 1 = subst (λ xs. tally (is_send_to (suc p)) xs w.0 ≡ received old.history (suc q) (suc p) + 1) (old.chart (suc q)) w.1.1 in
          let front = tally_front (is_send_to (suc p)) made_q (c (suc q)) w.0 (ith_within (take made_q (c (suc q))) w.0 (send_event (suc p) x.name) on_front).1 in
          let one = same_from_tally (is_send_to (suc p)) (c (suc q)) w.0 j passes_there belongs.sent (sym front ∙ number ∙ ap (λ i. i + 1) got ∙ sym turn) in
          subst (λ i. chart_event c (at (suc q) i) ≡ Some (send_event (suc p) x.name)) one on_line.1

      go : (m : Event) → chart_event c (next_of made p) ≡ Some m → is_receive_from (suc q) m ≡ true → IsMade n c (set made p (k + 1))
      go (Send to name) at_m fails = absurd (false≢true fails)
      go (Receive from name region) at_m passes = from_first (waiting old.history (suc q) (suc p)) refl some
        where
          comes : from ≡ suc q
          comes = eqb-true from (suc q) passes

          from_first : (ms : List Content) → waiting old.history (suc q) (suc p) ≡ ms → 0 < length ms → IsMade n c (set made p (k + 1))
          from_first [] none one = absurd (omega arith)
          from_first (x ∷ rest) first one =
              let name_is : x.name ≡ name = names (send_event (suc p) x.name) (Receive from name region) (its_send x rest first) at_m in
              let region_may = (chart.each p (record { instance = suc p; events = [] }) inside).regions k (Receive from name region) at_m in
              let other = partner_other lines p k (Receive from name region) chart inside at_m in
              IsMade-by (Receives (suc p) (suc q) region) (Receive from name region) refl at_m
              ((omega arith, omega arith, omega arith, omega arith, λ e. other (comes ∙ sym e)), some, room, subst (λ xs. MayHaveRegion xs region) (sym (old.chart (suc p))) region_may)
              old.never_closed
              (line_after_receive old.history (suc p) (suc q) region x rest first ∙ ap₂ (λ a b. chart_of old.history (suc p) ++ receive_event a b region ∷ []) (sym comes) name_is)

-- the next event is made if it can be
pub IsMade-next : (lines : List LineView) (made : List ℕ) (p : ℕ) → IsChart lines → length made ≡ length lines → IsMade (length lines) (chart_lines lines) made → p < length lines → IsReady (chart_lines lines) (length lines) made p → IsMade (length lines) (chart_lines lines) (set made p (slice_index made p + 1))
IsMade-next lines made p chart same old inside ready = go ready.partner
  where
    go : ((q : ℕ) × (q < length lines) × IsSendTo (chart_lines lines) (suc q) (next_of made p)) ⊎ ((q j : ℕ) × (q < length lines) × BelongsTo (chart_lines lines) (at (suc q) j) (next_of made p) × HasSameName (chart_lines lines) (at (suc q) j) (next_of made p) × (j ≤ slice_index made q)) → IsMade (length lines) (chart_lines lines) (set made p (slice_index made p + 1))
    go (inl (q, q_in, sends)) = IsMade-send lines made p chart same old inside ready.within q q_in sends
    go (inr (q, j, q_in, belongs, names, was_made)) = IsMade-receive lines made p chart same old inside ready.within q j q_in belongs names was_made

-- if all events were made, the chart is possible
pub IsPossible-from_made : (lines : List LineView) (made : List ℕ) → IsMade (length lines) (chart_lines lines) made → ((p : ℕ) → p < length lines → length (chart_lines lines (suc p)) ≤ slice_index made p) → IsPossible (length lines) (chart_lines lines)
IsPossible-from_made lines made is all = (is.history, MAX_EVENTS, is.legal, λ p. is.chart p ∙ whole p)
  where
    whole : (p : ℕ) → take (entry made p) (chart_lines lines p) ≡ chart_lines lines p
    whole zero = refl
    whole (suc p) =
        elim (cases_lt p (length lines)) [
          | inl within ↦ take_all (slice_index made p) (chart_lines lines (suc p)) (all p within)
          | inr past ↦ take_all (slice_index made p) (chart_lines lines (suc p)) (let e = ap length (empty_line lines p past) in omega arith)
        ]

-- if lines are unfinished and no event can be made, an event is before itself
pub IsCyclic-from_stopped : (c : Chart) (n : ℕ) (made : List ℕ) → AreStopped c n made → (p : ℕ) → p < n → slice_index made p < length (c (suc p)) → IsCyclic c
IsCyclic-from_stopped c n made stopped p inside more =
    let found = cycle (λ a b. Before c (next_of made a) (next_of made b)) (λ a b d x y. through x y) n (λ x. (x < n) × (slice_index made x < length (c (suc x)))) (λ x h. h.0) waits p (inside, more) in
    (next_of made found.0, found.1)
  where
    waits : (x : ℕ) → (x < n) × (slice_index made x < length (c (suc x))) → ((y : ℕ) × ((y < n) × (slice_index made y < length (c (suc y)))) × Before c (next_of made y) (next_of made x)) ⊎ HasCycle (λ a b. Before c (next_of made a) (next_of made b))
    waits x (x_in, unfinished) = by_reason (stopped x x_in)
      where
        by_reason : IsStopped c n made x → ((y : ℕ) × ((y < n) × (slice_index made y < length (c (suc y)))) × Before c (next_of made y) (next_of made x)) ⊎ HasCycle (λ a b. Before c (next_of made a) (next_of made b))
        by_reason (inl done) = absurd (omega arith)
        by_reason (inr (q, j, q_in, belongs, later)) =
            let event = IsEvent-from_passes c (is_send_to (suc x)) (at (suc q) j) belongs.sent in
            inl (
              q,
              (q_in, omega (arith, event.1, later)),
              elim (cases_eq (suc (slice_index made q)) j) [
                | inl e ↦ direct (message (subst (λ i. BelongsTo c (at (suc q) i) (next_of made x)) (sym e) belongs))
                | inr differs ↦ through (direct (to_send (suc x) (record { line = refl; begun = omega arith; less = omega arith }) belongs.sent)) (direct (message belongs))
              ],
            )

-- so a run shows whether the chart is possible
pub runs_out : (lines : List LineView) (made : List ℕ) (all : Bool) → IsMade (length lines) (chart_lines lines) made → AreStopped (chart_lines lines) (length lines) made
    → MatchBool all ((p : ℕ) → p < length lines → length (chart_lines lines (suc p)) ≤ slice_index made p) ((p : ℕ) × (p < length lines) × (slice_index made p < length (chart_lines lines (suc p)))) → MatchBool all (IsPossible (length lines) (chart_lines lines)) (IsCyclic (chart_lines lines))
runs_out lines made true is stopped all = IsPossible-from_made lines made is all
runs_out lines made false is stopped more = IsCyclic-from_stopped (chart_lines lines) (length lines) made stopped more.0 more.1 more.2
