-- Charts whose messages are received at once are drawn level.
use Rattle.std.proofs.Common.{◌≡◌, ◌≢◌, ℕ, suc, ◌+◌, ◌<◌, ◌≤◌, ◌==◌, ◌⊎◌, inl, inr, Bool, true, false, cond, List, [], ◌∷◌, ◌++◌, Option, Some, None, length, take, drop, count_by, ne_eqb, eq-eqb, eqb-true, refl, sym, ap, ◌∙◌, subst, append_assoc, arith}
use Rattle.std.specs.Prelude.{slice_get, option_map, ◌||◌}
use Rattle.std.proofs.lemmas.Option.{none-some}
use Rattle.std.proofs.Math.Seq.{take-append_seam}
use Rattle.std.proofs.lemmas.Bool.{cases_eq, cases_lt, and_parts}
use Rattle.std.proofs.lemmas.List.{length-append, drop_all}
use Rattle.std.proofs.lemmas.List.Sums.{sum_by-append}
use Rattle.std.proofs.lemmas.List.FromFn.{length-range_with_len}
use Rattle.chart.specs.declared.event.Event.{Event}
use Rattle.chart.specs.declared.event.Event.TheVariants.{Send, Receive}
use Rattle.chart.specs.declared.instance.EventNo.{EventNo}
use Rattle.chart.specs.Charts.{Chart, Place, LineView, at, chart_lines, BelongsTo, IsSendTo, IsReceiveFrom}
use Rattle.chart.specs.Events.{tally, is_send_to, is_receive_from, send_event, receive_event}
use Rattle.chart.proofs.Belongs.{IsEvent-from_passes, same_send, same_receive, not_both}
use Rattle.closure.specs.Faults.{place_of}
use Rattle.closure.proofs.ReadLemmas.{instance_within}
use Rattle.chart_layout.specs.Layouts.{laid_out, row_on, number_on, is_at, has_event, row_of, IsNext}
use Rattle.chart_layout.specs.Picking.{Comes, actors, IsLayout}
use Rattle.chart_layout.specs.declared.row.Row.{Row}
use Rattle.chart_layout.specs.declared.row.Row.TheVariants as rows
use Rattle.chart_layout.proofs.LaidOutLemmas.{number_on-own, number_on-other}
use Rattle.diagrams.specs.Messages.Each.{Each}
use Rattle.diagram_round_trip.specs.Laws.{LevelAtOnce}
use Rattle.diagram_round_trip.specs.LevelCharts.{Passed, ends_at, at_once}
use Rattle.diagram_round_trip.proofs.Lists.{each_of, all_at, each_append, each_get, Counts, counts_range, counts_has, counts_front, counts_on, Has, has_left, has_right, get_seam}

-- Places of numbers that count up.

counts_all : (k : ℕ) (xs : List ℕ) (x : ℕ) → Counts k xs → k ≤ x → x < k + length xs → Has xs x
counts_all k [] x all low high = absurd (omega arith)
counts_all k (y ∷ xs) x all low high = elim (cases_eq y x) [
  | inl same ↦ inl same
  | inr other ↦ let first = all.0 in inr (counts_all (k + 1) xs x all.1 (omega arith) (omega arith))
]

has_either : (xs ys : List ℕ) (x : ℕ) → Has (xs ++ ys) x → Has xs x ⊎ Has ys x
has_either [] ys x h = inr h
has_either (y ∷ xs) ys x (inl e) = inl (inl e)
has_either (y ∷ xs) ys x (inr h) = elim (has_either xs ys x h) [ inl w ↦ inl (inr w) | inr w ↦ inr w ]

-- an event of p's line with this number
is_there : (p x : ℕ) (e : EventNo) → Has (number_on p e) x → (e.instance ≡ p) × (e.index ≡ x)
is_there p x e h = elim (cases_eq e.instance p) [
  | inl own ↦ go (subst (λ l. Has l x) (number_on-own p e own) h) own
  | inr other ↦ absurd (subst (λ l. Has l x) (number_on-other p e other) h)
]
  where
    go : (e.index ≡ x) ⊎ ⊥ → e.instance ≡ p → (e.instance ≡ p) × (e.index ≡ x)
    go (inl same) own = (own, same)
    go (inr none) own = absurd none

-- Rows of only messages.

abbrev IsLevelRow : Chart → Row → Type 0
IsLevelRow c (rows.Message s r) = BelongsTo c (place_of s) (place_of r)
IsLevelRow c (rows.Event e) = ⊥

-- an event in such rows is there with both ends of its message
record HasPair (c : Chart) (above : List Row) (p x : ℕ) : Type 0 where
  pub send : EventNo
  pub receive : EventNo
  pub belong : BelongsTo c (place_of send) (place_of receive)
  pub either : (place_of send ≡ at p x) ⊎ (place_of receive ≡ at p x)
  pub send_laid_out : Has (laid_out above send.instance) send.index
  pub receive_laid_out : Has (laid_out above receive.instance) receive.index

place_is : (e : EventNo) (p x : ℕ) → (e.instance ≡ p) × (e.index ≡ x) → place_of e ≡ at p x
place_is e p x w = ap (λ q. at q e.index) w.0 ∙ ap (λ y. at p y) w.1

pair_at : (c : Chart) (above : List Row) (p x : ℕ) → Each (IsLevelRow c) above → Has (laid_out above p) x → HasPair c above p x
pair_at c [] p x all h = absurd h
pair_at c (rows.Event e ∷ above) p x all h = absurd all.0
pair_at c (rows.Message s r ∷ above) p x all h = elim (has_either (number_on p s ++ number_on p r) (laid_out above p) x h) [
  | inl here ↦ record {
    send = s;
    receive = r;
    belong = all.0;
    either = elim (has_either (number_on p s) (number_on p r) x here) [ inl w ↦ inl (place_is s p x (is_there p x s w)) | inr w ↦ inr (place_is r p x (is_there p x r w)) ];
    send_laid_out = has_left (number_on s.instance s ++ number_on s.instance r) (laid_out above s.instance) s.index (has_left (number_on s.instance s) (number_on s.instance r) s.index (subst (λ l. Has l s.index) (sym (number_on-own s.instance s refl)) (inl refl)));
    receive_laid_out = has_left (number_on r.instance s ++ number_on r.instance r) (laid_out above r.instance) r.index (has_right (number_on r.instance s) (number_on r.instance r) r.index (subst (λ l. Has l r.index) (sym (number_on-own r.instance r refl)) (inl refl)));
  }
  | inr below ↦
      let w = pair_at c above p x all.1 below in
      record {
        send = w.send;
        receive = w.receive;
        belong = w.belong;
        either = w.either;
        send_laid_out = has_right (number_on w.send.instance s ++ number_on w.send.instance r) (laid_out above w.send.instance) w.send.index w.send_laid_out;
        receive_laid_out = has_right (number_on w.receive.instance s ++ number_on w.receive.instance r) (laid_out above w.receive.instance) w.receive.index w.receive_laid_out;
      }
]

abbrev no_turns : List ℕ
no_turns = []

-- an event that has a row is drawn
numbered_here : (e : Place) (x : EventNo) → is_at e x ≡ true → Has (number_on e.instance x) e.index
numbered_here e x its =
    let parts = and_parts (x.instance == e.instance) (x.index == e.index) its in
    subst (λ l. Has l e.index) (sym (number_on-own e.instance x (eqb-true x.instance e.instance parts.0))) (inl (eqb-true x.index e.index parts.1))

row_here : (e : Place) (row : Row) → has_event e row ≡ true → Has (row_on e.instance row) e.index
row_here e (rows.Event x) its = numbered_here e x its
row_here e (rows.Message s r) its = go (is_at e s) refl its
  where
    go : (first : Bool) → is_at e s ≡ first → (first || is_at e r) ≡ true → Has (number_on e.instance s ++ number_on e.instance r) e.index
    go true is either = has_left (number_on e.instance s) (number_on e.instance r) e.index (numbered_here e s is)
    go false is either = has_right (number_on e.instance s) (number_on e.instance r) e.index (numbered_here e r either)

laid_out_in : (above : List Row) (e : Place) (i : ℕ) → row_of above e ≡ Some i → Has (laid_out above e.instance) e.index
laid_out_in [] e i is = absurd (none-some i is)
laid_out_in (row ∷ above) e i is = go (has_event e row) refl (row_of above e) (λ n at_n. laid_out_in above e n at_n) is
  where
    go : (here : Bool) → has_event e row ≡ here → (found : Option ℕ) → ((n : ℕ) → found ≡ Some n → Has (laid_out above e.instance) e.index) → cond here (Some 0) (option_map suc found) ≡ Some i
        → Has (row_on e.instance row ++ laid_out above e.instance) e.index
    go true has found later is = has_left (row_on e.instance row) (laid_out above e.instance) e.index (row_here e row has)
    go false has None later none = absurd (none-some i none)
    go false has (Some n) later next = has_right (row_on e.instance row) (laid_out above e.instance) e.index (later n refl)

-- The ends of a message that is received at once.

joined : (one other : List Passed) (p : ℕ) → at_once (one ++ other) p ≡ at_once one p ++ at_once other p
joined [] other p = refl
joined (m ∷ one) other p = ap (λ l. ends_at p m ++ l) (joined one other p) ∙ sym (append_assoc (ends_at p m) (at_once one p) (at_once other p))

counts_joined : (test : Event → Bool) (xs ys : List Event) → count_by test (xs ++ ys) ≡ count_by test xs + count_by test ys
counts_joined test xs ys = sum_by-append (λ x. cond (test x) 1 0) xs ys

sent_part : (m : Passed) → m.from ≢ m.to → ends_at m.from m ≡ Send m.to m.name ∷ []
sent_part m apart = rw (eq-eqb m.from m.from refl, ne_eqb m.to m.from (λ e. apart (sym e))) refl

taken_part : (m : Passed) → m.from ≢ m.to → ends_at m.to m ≡ Receive m.from m.name 0 ∷ []
taken_part m apart = rw (ne_eqb m.from m.to apart, eq-eqb m.to m.to refl) refl

-- a lane has as many sends as receives
even : (q p : ℕ) (m : Passed) → q ≢ p → m.from ≢ m.to → count_by (is_send_to p) (ends_at q m) ≡ count_by (is_receive_from q) (ends_at p m)
even q p m apart two = go (m.from == q) (m.to == q) (m.from == p) (m.to == p) refl refl refl refl
  where
    go : (fq tq fp tp : Bool) → (m.from == q) ≡ fq → (m.to == q) ≡ tq → (m.from == p) ≡ fp → (m.to == p) ≡ tp
        → count_by (is_send_to p) (cond fq (send_event m.to m.name ∷ []) [] ++ cond tq (receive_event m.from m.name 0 ∷ []) [])
        ≡ count_by (is_receive_from q) (cond fp (send_event m.to m.name ∷ []) [] ++ cond tp (receive_event m.from m.name 0 ∷ []) [])
    go true true fp tp a b c d = absurd (two (eqb-true m.from q a ∙ sym (eqb-true m.to q b)))
    go fq tq true true a b c d = absurd (two (eqb-true m.from p c ∙ sym (eqb-true m.to p d)))
    go true false true tp a b c d = absurd (apart (sym (eqb-true m.from q a) ∙ eqb-true m.from p c))
    go fq true fp true a b c d = absurd (apart (sym (eqb-true m.to q b) ∙ eqb-true m.to p d))
    go true false false true a b c d = rw (d, a) refl
    go true false false false a b c d = rw d refl
    go false true true false a b c d = refl
    go false true false false a b c d = refl
    go false false true false a b c d = refl
    go false false false true a b c d = rw a refl
    go false false false false a b c d = refl

evens : (q p : ℕ) (messages : List Passed) → q ≢ p → Each (λ (m : Passed). m.from ≢ m.to) messages → count_by (is_send_to p) (at_once messages q) ≡ count_by (is_receive_from q) (at_once messages p)
evens q p [] apart all = refl
evens q p (m ∷ messages) apart all =
    counts_joined (is_send_to p) (ends_at q m) (at_once messages q)
    ∙ ap (λ n. n + count_by (is_send_to p) (at_once messages q)) (even q p m apart all.0)
    ∙ ap (λ n. count_by (is_receive_from q) (ends_at p m) + n) (evens q p messages apart all.1)
    ∙ sym (counts_joined (is_receive_from q) (ends_at p m) (at_once messages p))

-- one more event that passes the test
tally_here : (test : Event → Bool) (line front back : List Event) (x : Event) → line ≡ front ++ x ∷ back → test x ≡ true → tally test line (suc (length front)) ≡ count_by test front + 1
tally_here test line front back x is its =
    let whole : (front ++ x ∷ []) ++ back ≡ front ++ x ∷ back = append_assoc front (x ∷ []) back in
    let long : length (front ++ x ∷ []) ≡ suc (length front) = length-append front (x ∷ []) ∙ omega arith in
    let taken : take (suc (length front)) line ≡ front ++ x ∷ [] = ap (take (suc (length front))) (is ∙ sym whole) ∙ ap (λ n. take n ((front ++ x ∷ []) ++ back)) (sym long) ∙ take-append_seam (front ++ x ∷ []) back in
    ap (count_by test) taken ∙ counts_joined test front (x ∷ []) ∙ rw its (omega arith)

laid_out_joined : (one other : List Row) (p : ℕ) → laid_out (one ++ other) p ≡ laid_out one p ++ laid_out other p
laid_out_joined [] other p = refl
laid_out_joined (row ∷ one) other p = ap (λ l. row_on p row ++ l) (laid_out_joined one other p) ∙ sym (append_assoc (row_on p row) (laid_out one p) (laid_out other p))

-- one more message fits, if the rows have both of its ends
fits : (done : List Passed) (m : Passed) (k : ℕ → ℕ) → m.from ≢ m.to → ((p : ℕ) → length (at_once done p) ≤ k p) → length (at_once done m.from) < k m.from → length (at_once done m.to) < k m.to
    → (p : ℕ) → length (at_once (done ++ m ∷ []) p) ≤ k p
fits done m k two all sent taken p =
    let long : length (at_once (done ++ m ∷ []) p) ≡ length (at_once done p) + length (at_once (m ∷ []) p) = ap length (joined done (m ∷ []) p) ∙ length-append (at_once done p) (at_once (m ∷ []) p) in
    go (m.from == p) (m.to == p) refl refl long (all p)
  where
    go : (f t : Bool) → (m.from == p) ≡ f → (m.to == p) ≡ t
        → length (at_once (done ++ m ∷ []) p) ≡ length (at_once done p) + length ((cond f (send_event m.to m.name ∷ []) [] ++ cond t (receive_event m.from m.name 0 ∷ []) []) ++ [])
        → length (at_once done p) ≤ k p → length (at_once (done ++ m ∷ []) p) ≤ k p
    go true true a b long le = absurd (two (eqb-true m.from p a ∙ sym (eqb-true m.to p b)))
    go true false a b long le = let more : length (at_once done p) < k p = subst (λ q. length (at_once done q) < k q) (eqb-true m.from p a) sent in omega arith
    go false true a b long le = let more : length (at_once done p) < k p = subst (λ q. length (at_once done q) < k q) (eqb-true m.to p b) taken in omega arith
    go false false a b long le = omega arith

module _ (lines : List LineView) (drawing : List Row) (messages : List Passed) (layout : IsLayout lines [] drawing) (are : (p : ℕ) → chart_lines lines p ≡ at_once messages p) where
  abbrev c : Chart
  c = chart_lines lines

  whole : (done left : List Passed) (m : Passed) (p : ℕ) → messages ≡ done ++ m ∷ left → c p ≡ at_once done p ++ (ends_at p m ++ at_once left p)
  whole done left m p is = are p ∙ ap (λ l. at_once l p) is ∙ joined done (m ∷ left) p

  belongs_here : (done left : List Passed) (m : Passed) → messages ≡ done ++ m ∷ left → Each (λ (x : Passed). x.from ≢ x.to) done → m.from ≢ m.to
      → BelongsTo c (at m.from (suc (length (at_once done m.from)))) (at m.to (suc (length (at_once done m.to))))
  belongs_here done left m is apart two =
      let sender : c m.from ≡ at_once done m.from ++ Send m.to m.name ∷ at_once left m.from = whole done left m m.from is ∙ ap (λ l. at_once done m.from ++ (l ++ at_once left m.from)) (sent_part m two) in
      let receiver : c m.to ≡ at_once done m.to ++ Receive m.from m.name 0 ∷ at_once left m.to = whole done left m m.to is ∙ ap (λ l. at_once done m.to ++ (l ++ at_once left m.to)) (taken_part m two) in
      record {
        sent = (Send m.to m.name, ap (λ l. slice_get l (length (at_once done m.from))) sender ∙ get_seam (at_once done m.from) (Send m.to m.name) (at_once left m.from), eq-eqb m.to m.to refl);
        received = (Receive m.from m.name 0, ap (λ l. slice_get l (length (at_once done m.to))) receiver ∙ get_seam (at_once done m.to) (Receive m.from m.name 0) (at_once left m.to), eq-eqb m.from m.from refl);
        turn = tally_here (is_send_to m.to) (c m.from) (at_once done m.from) (at_once left m.from) (Send m.to m.name) sender (eq-eqb m.to m.to refl)
            ∙ ap (λ n. n + 1) (evens m.from m.to done two apart)
            ∙ sym (tally_here (is_receive_from m.from) (c m.to) (at_once done m.to) (at_once left m.to) (Receive m.from m.name 0) receiver (eq-eqb m.from m.from refl));
      }

  -- in rows of only messages
  module _ (above : List Row) (level : Each (IsLevelRow c) above) where
    -- if one end of a message is drawn, so is the other
    other_taken : (s r : Place) → BelongsTo c s r → Has (laid_out above s.instance) s.index → Has (laid_out above r.instance) r.index
    other_taken s r b h =
        let w = pair_at c above s.instance s.index level h in
        elim w.either [
          | inl same ↦
              let mine = subst (λ x. BelongsTo c x (place_of w.receive)) same w.belong in
              subst (λ (x : Place). Has (laid_out above x.instance) x.index) (same_receive c s (place_of w.receive) r mine b) w.receive_laid_out
          | inr same ↦ absurd (not_both c r.instance w.send.instance s b.sent (subst (λ x. IsReceiveFrom c w.send.instance x) same w.belong.received))
        ]

    other_sent : (s r : Place) → BelongsTo c s r → Has (laid_out above r.instance) r.index → Has (laid_out above s.instance) s.index
    other_sent s r b h =
        let w = pair_at c above r.instance r.index level h in
        elim w.either [
          | inl same ↦ absurd (not_both c w.receive.instance s.instance r (subst (λ x. IsSendTo c w.receive.instance x) same w.belong.sent) b.received)
          | inr same ↦
              let mine = subst (λ x. BelongsTo c (place_of w.send) x) same w.belong in
              subst (λ (x : Place). Has (laid_out above x.instance) x.index) (same_send c (place_of w.send) s r mine b) w.send_laid_out
        ]

  -- an event without a turn is alone only if no message is level; otherwise its send is above, and so is the event
  greedy_at : (above : List Row) → Each (IsLevelRow c) above → ((p : ℕ) → Counts 1 (laid_out above p)) → (e : EventNo) → e.index ≡ 1 + length (laid_out above e.instance) → Comes c (length lines) above [] (rows.Event e)
      → (s r : Place) → BelongsTo c s r → IsNext above s → IsNext above r → ⊥
  greedy_at above level counts e next (inl turn) s r b next_s next_r = turn.0
  greedy_at above level counts e next (inr picked) s r b next_s next_r = elim picked.1 [
    | inl highest ↦
        let arrival = highest.1 in
        let there = other_taken above level arrival.send (place_of e) arrival.belongs (laid_out_in above arrival.send highest.0 arrival.row) in
        let was = counts_has 1 (laid_out above e.instance) e.index (counts e.instance) there in
        let high = was.1 in
        omega arith
    | inr early ↦
        let sends = IsEvent-from_passes c (is_send_to r.instance) s b.sent in
        let receives = IsEvent-from_passes c (is_receive_from s.instance) r b.received in
        let on = instance_within lines r receives in
        early.1 on.0 on.2 s r on.1 b (record { event = sends; next = next_s }) (record { event = receives; next = next_r })
  ]

  -- below rows of only messages no event is alone
  module _ (above : List Row) (level : Each (IsLevelRow c) above) (counts : (p : ℕ) → Counts 1 (laid_out above p)) (e : EventNo) (next : e.index ≡ 1 + length (laid_out above e.instance)) (within : e.index ≤ length (c e.instance))
      (greedy : (s r : Place) → BelongsTo c s r → IsNext above s → IsNext above r → ⊥) where
    abbrev k : ℕ → ℕ
    k p = length (laid_out above p)

    search : (done left : List Passed) → messages ≡ done ++ left → Each (λ (x : Passed). x.from ≢ x.to) done → Each (λ (x : Passed). x.from ≢ x.to) left → ((p : ℕ) → length (at_once done p) ≤ k p) → ⊥
    search done [] is apart two all =
        let every = all e.instance in
        let same : length (c e.instance) ≡ length (at_once done e.instance) = ap length (are e.instance ∙ ap (λ l. at_once l e.instance) is ∙ joined done [] e.instance) ∙ length-append (at_once done e.instance) [] ∙ omega arith in
        omega arith
    search done (m ∷ left) is apart two all =
        let b = belongs_here done left m is apart two.0 in
        let s : Place = at m.from (suc (length (at_once done m.from))) in
        let r : Place = at m.to (suc (length (at_once done m.to))) in
        elim (cases_lt (length (at_once done m.from)) (k m.from)) [
          | inl sent ↦
              let there = counts_all 1 (laid_out above m.from) (suc (length (at_once done m.from))) (counts m.from) (omega arith) (omega arith) in
              let taken = counts_has 1 (laid_out above m.to) (suc (length (at_once done m.to))) (counts m.to) (other_taken above level s r b there) in
              let high = taken.1 in
              search (done ++ m ∷ []) left (is ∙ sym (append_assoc done (m ∷ []) left)) (each_append (λ (x : Passed). x.from ≢ x.to) done (m ∷ []) apart (two.0, tt)) two.1 (fits done m k two.0 all sent (omega arith))
          | inr not_sent ↦
              let up = all m.from in
              let next_s : IsNext above s = omega arith in
              elim (cases_lt (length (at_once done m.to)) (k m.to)) [
                | inl taken ↦
                    let there = counts_all 1 (laid_out above m.to) (suc (length (at_once done m.to))) (counts m.to) (omega arith) (omega arith) in
                    let was = counts_has 1 (laid_out above m.from) (suc (length (at_once done m.from))) (counts m.from) (other_sent above level s r b there) in
                    let high = was.1 in
                    omega arith
                | inr not_taken ↦
                    let down = all m.to in
                    let next_r : IsNext above r = omega arith in
                    greedy s r b next_s next_r
              ]
        ]

  -- all rows are messages
  all_level : (above below : List Row) → drawing ≡ above ++ below → Each (IsLevelRow c) above → Each (λ (x : Passed). x.from ≢ x.to) messages → Each (IsLevelRow c) below
  all_level above [] is level two = tt
  all_level above (rows.Message s r ∷ below) is level two =
      let here : slice_get drawing (length above) ≡ Some (rows.Message s r) = ap (λ l. slice_get l (length above)) is ∙ get_seam above (rows.Message s r) below in
      let b = layout.drawing.level (length above) s r here in
      (b, all_level (above ++ rows.Message s r ∷ []) below (is ∙ sym (append_assoc above (rows.Message s r ∷ []) below)) (each_append (IsLevelRow c) above (rows.Message s r ∷ []) level (b, tt)) two)
  all_level above (rows.Event e ∷ below) is level two =
      let here : slice_get drawing (length above) ≡ Some (rows.Event e) = ap (λ l. slice_get l (length above)) is ∙ get_seam above (rows.Event e) below in
      let parted : (p : ℕ) → laid_out drawing p ≡ laid_out above p ++ laid_out (rows.Event e ∷ below) p = λ p. ap (λ l. laid_out l p) is ∙ laid_out_joined above (rows.Event e ∷ below) p in
      let counts : (p : ℕ) → Counts 1 (laid_out above p ++ laid_out (rows.Event e ∷ below) p) = λ p. subst (Counts 1) (sym (layout.drawing.order p) ∙ parted p) (counts_range 1 (length (c p))) in
      let first : Counts (1 + length (laid_out above e.instance)) (e.index ∷ laid_out below e.instance) =
      subst (λ l. Counts (1 + length (laid_out above e.instance)) (l ++ laid_out below e.instance)) (number_on-own e.instance e refl) (counts_on 1 (laid_out above e.instance) (laid_out (rows.Event e ∷ below) e.instance) (counts e.instance)) in
      let its = first.0 in
      let long : length (c e.instance) ≡ length (laid_out above e.instance) + suc (length (laid_out below e.instance)) =
      sym (ap length (layout.drawing.order e.instance) ∙ length-range_with_len 1 (length (c e.instance))) ∙ ap length (parted e.instance) ∙ length-append (laid_out above e.instance) (laid_out (rows.Event e ∷ below) e.instance)
      ∙ ap (λ l. length (laid_out above e.instance) + length (l ++ laid_out below e.instance)) (number_on-own e.instance e refl) in
      let front : take (length above) drawing ≡ above = ap (take (length above)) is ∙ take-append_seam above (rows.Event e ∷ below) in
      absurd (search above level (λ p. counts_front 1 (laid_out above p) (laid_out (rows.Event e ∷ below) p) (counts p)) e its (omega arith)
      (greedy_at above level (λ p. counts_front 1 (laid_out above p) (laid_out (rows.Event e ∷ below) p) (counts p)) e its
      (subst (λ (turns : List ℕ). Comes c (length lines) above turns (rows.Event e)) (drop_all (length (actors above)) no_turns (omega arith))
      (subst (λ (l : List Row). Comes c (length lines) l (drop (length (actors l)) no_turns) (rows.Event e)) front (layout.comes (length above) (rows.Event e) here))))
      [] messages refl tt two (λ p. omega arith))

  pub never_alone : Each (λ (x : Passed). x.from ≢ x.to) messages → (i : ℕ) (e : EventNo) → slice_get drawing i ≡ Some (rows.Event e) → ⊥
  never_alone two i e here = each_get (IsLevelRow c) drawing i (rows.Event e) here (all_level [] drawing refl tt two)

-- the law
pub level_at_once : LevelAtOnce
level_at_once lines drawing messages layout are two i e here =
    never_alone lines drawing messages layout are (each_of (λ (m : Passed). m.from ≢ m.to) messages (λ j m at_j. all_at (λ (x : Passed). x.from ≢ x.to) messages j m at_j two)) i e here
