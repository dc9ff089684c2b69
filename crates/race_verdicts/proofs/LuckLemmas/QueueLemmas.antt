-- Queues of lines in two tables: built from the last line back, cut at a line, and read one by one.
use Rattle.std.proofs.Common.{◌≡◌, ℕ, zero, ◌+◌, ◌-◌, ◌<◌, ◌≤◌, ◌==◌, ◌&&◌, ◌||◌, inl, inr, Bool, true, false, List, [], ◌∷◌, Option, None, Some, length, get_or, set, drop, cond, refl, sym, ap, ap₂, ◌∙◌, subst, arith, eqb-true, eq-eqb}
use Rattle.std.specs.Prelude.{slice_get, filter, not, is_none, nat_lt}
use Rattle.std.specs.List.{list_any}
use Rattle.std.proofs.lemmas.Bool.{cases_lt, eqb-false, false≢true, le-ltb, lt-ltb}
use Rattle.std.proofs.lemmas.List.{length-set, get_or-set_same, get_or-set_other, get_or_past, drop_more, drop_all}
use Rattle.std.proofs.lemmas.List.Elements.{All-contains}
use Rattle.std.proofs.lemmas.List.Folds.{list_any-from_Any, Any-from_list_any}
use Rattle.std.proofs.lemmas.Option.{slice_get_within, slice_get-get_or, get_or_from_slice_get}
use Rattle.log_chart.specs.Entries.{is_send}
use Rattle.log_chart.specs.Fates.{is_sent_at}
use Rattle.log_chart.specs.declared.matching.LogLine.{LogLine}
use Rattle.race_verdicts.specs.Luck.Arrivals.{is_left, of_stream, is_open}
use Rattle.race_verdicts.specs.Luck.LineTables.{Takes, AreTakers}
use Rattle.race_verdicts.specs.Luck.QueueTables.{IsQueue, IsSomeQueue, AreQueues, with_list, first_number}
use Rattle.race_verdicts.specs.Luck.Recorded.{IsLog}
use Rattle.race_verdicts.specs.Luck.Tables.{IsFirst}
use Rattle.race_verdicts.proofs.LuckLemmas.LogLemmas.{contained_get}
use Rattle.race_verdicts.proofs.LuckLemmas.TableLemmas.{some_same}

module _ (lines : List LogLine) (sends : Bool) where
  -- a queue from an earlier line on, and a queue if a line before it is changed
  pub queue_low : (next : List (Option ℕ)) (low earlier : ℕ) → earlier ≤ low → (entry : Option ℕ) (list : List LogLine) → IsQueue lines sends next low entry list
      → IsQueue lines sends next earlier entry list
  queue_low next low earlier less entry [] q = q
  queue_low next low earlier less entry (x ∷ xs) q = (q.0, q.1, q.2, omega (arith, q.3), q.4, q.5)

  queue_set : (next : List (Option ℕ)) (n : ℕ) (y : Option ℕ) (low : ℕ) → n < low → (entry : Option ℕ) (list : List LogLine) → IsQueue lines sends next low entry list
      → IsQueue lines sends (set next n y) low entry list
  queue_set next n y low less entry [] q = q
  queue_set next n y low less entry (x ∷ xs) q = (
    q.0,
    q.1,
    q.2,
    q.3,
    omega (arith, q.4, length-set next n y),
    subst (λ e. IsQueue lines sends (set next n y) (x.number + 1) e xs) (sym (get_or-set_other next n x.number y None (λ e. absurd (omega (arith, q.3, e)))))
        (queue_set next n y (x.number + 1) (omega (arith, q.3)) (get_or next x.number None) xs q.5),
  )

  queue_put : (next : List (Option ℕ)) (n : ℕ) (x : LogLine) (entry : Option ℕ) (list : List LogLine) → slice_get lines n ≡ Some x → x.number ≡ n → is_send x.entry.kind ≡ sends → n < length next
      → IsQueue lines sends next (n + 1) entry list → IsQueue lines sends (set next n entry) n (Some n) (x ∷ list)
  queue_put next n x entry list here number its within q = (
    ap (λ k. Some k) (sym number),
    ap (slice_get lines) number ∙ here,
    its,
    omega (arith, number),
    omega (arith, number, within, length-set next n entry),
    subst (λ k. IsQueue lines sends (set next n entry) (k + 1) (get_or (set next n entry) k None) list) (sym number)
        (subst (λ e. IsQueue lines sends (set next n entry) (n + 1) e list) (sym (get_or-set_same next n entry None within)) (queue_set next n entry (n + 1) (omega arith) entry list q)),
  )

  -- its first line
  pub queue_none : (next : List (Option ℕ)) (low : ℕ) (entry : Option ℕ) (list : List LogLine) → IsQueue lines sends next low entry list → entry ≡ None → list ≡ []
  queue_none next low entry [] q none = refl
  queue_none next low entry (x ∷ xs) q none = absurd (let e = q.0 in cc (e, none))

  pub record HasFirst (next : List (Option ℕ)) (low n : ℕ) (list : List LogLine) : Type 0 where
    pub x : LogLine
    pub xs : List LogLine
    pub is : list ≡ x ∷ xs
    pub number : x.number ≡ n
    pub here : slice_get lines n ≡ Some x
    pub its : is_send x.entry.kind ≡ sends
    pub low_is : low ≤ n
    pub within : n < length next
    pub rest : IsQueue lines sends next (n + 1) (get_or next n None) xs

  pub queue_some : (next : List (Option ℕ)) (low n : ℕ) (entry : Option ℕ) (list : List LogLine) → IsQueue lines sends next low entry list → entry ≡ Some n → HasFirst next low n list
  queue_some next low n entry [] q some = absurd (cc (q, some))
  queue_some next low n entry (x ∷ xs) q some =
      let number : x.number ≡ n = some_same (sym q.0 ∙ some) in
      record {
        x = x;
        xs = xs;
        is = refl;
        number = number;
        here = ap (slice_get lines) (sym number) ∙ q.1;
        its = q.2;
        low_is = omega (arith, q.3, number);
        within = omega (arith, q.4, number);
        rest = subst (λ k. IsQueue lines sends next (k + 1) (get_or next k None) xs) number q.5;
      }

  pub number_first : (next : List (Option ℕ)) (low : ℕ) (entry : Option ℕ) (list : List LogLine) → IsQueue lines sends next low entry list → entry ≡ first_number list
  number_first next low entry [] q = q
  number_first next low entry (x ∷ xs) q = q.0

  -- one list was changed
  module _ (first next : List (Option ℕ)) (lists : ℕ → List LogLine) (are : AreQueues lines sends first next 0 lists) (c : ℕ) where
    pub queues_with : (entry : Option ℕ) (list : List LogLine) → IsQueue lines sends next 0 entry list → (length first ≤ c → list ≡ []) → AreQueues lines sends (set first c entry) next 0 (with_list lists c list)
    queues_with entry list q past = record {
      first_whole = length-set first c entry ∙ are.first_whole;
      next_whole = are.next_whole;
      each = λ d. go d (c == d) refl;
    }
      where
        here : IsQueue lines sends next 0 (get_or (set first c entry) c None) list
        here =
            elim (cases_lt c (length first)) [
              | inl less ↦ subst (λ e. IsQueue lines sends next 0 e list) (sym (get_or-set_same first c entry None less)) q
              | inr low ↦
                  subst (λ l. IsQueue lines sends next 0 (get_or (set first c entry) c None) l) (sym (past low))
                  (get_or_past (set first c entry) c None (omega (arith, low, length-set first c entry)))
            ]

        go : (d : ℕ) (its : Bool) → (c == d) ≡ its → IsQueue lines sends next 0 (get_or (set first c entry) d None) (cond its list (lists d))
        go d true same = subst (λ k. IsQueue lines sends next 0 (get_or (set first c entry) k None) list) (eqb-true c d same) here
        go d false other =
            subst (λ e. IsQueue lines sends next 0 e (lists d)) (sym (get_or-set_other first c d entry None (λ e. eqb-false c d other (sym e)))) (are.each d)

    -- past the last line there is no list
    pub list_past : length first ≤ c → lists c ≡ []
    list_past low = queue_none next 0 (get_or first c None) (lists c) (are.each c) (get_or_past first c None low)

    pub taken_some : (n : ℕ) → get_or first c None ≡ Some n → AreQueues lines sends (set first c (get_or next n None)) next 0 (with_list lists c (drop 1 (lists c)))
    taken_some n some =
        let its = queue_some next 0 n (get_or first c None) (lists c) (are.each c) some in
        queues_with (get_or next n None) (drop 1 (lists c))
        (subst (λ l. IsQueue lines sends next 0 (get_or next n None) (drop 1 l)) (sym its.is) (queue_low next (n + 1) 0 (omega arith) (get_or next n None) its.xs its.rest))
        (λ low. ap (drop 1) (list_past low))

    pub taken_none : get_or first c None ≡ None → AreQueues lines sends first next 0 (with_list lists c (drop 1 (lists c)))
    taken_none none = record { first_whole = are.first_whole; next_whole = are.next_whole; each = λ d. go d (c == d) refl }
      where
        go : (d : ℕ) (its : Bool) → (c == d) ≡ its → IsQueue lines sends next 0 (get_or first d None) (cond its (drop 1 (lists c)) (lists d))
        go d true same =
            subst (λ k. IsQueue lines sends next 0 (get_or first k None) (drop 1 (lists c))) (eqb-true c d same)
            (subst (λ l. IsQueue lines sends next 0 (get_or first c None) (drop 1 l)) (sym (queue_none next 0 (get_or first c None) (lists c) (are.each c) none)) none)
        go d false other = are.each d

-- lists without the lines above a line
module _ (lines : List LogLine) where
  pub open_sends : (next : List (Option ℕ)) (at low : ℕ) (entry : Option ℕ) (list : List LogLine) → IsQueue lines true next low entry list → filter (is_open at) list ≡ list
  open_sends next at low entry [] q = refl
  open_sends next at low entry (x ∷ xs) q =
      let rest = open_sends next at (x.number + 1) (get_or next x.number None) xs q.5 in
      subst (λ b. cond b (x ∷ filter (is_open at) xs) (filter (is_open at) xs) ≡ x ∷ xs) (sym (ap (λ s. s || not (nat_lt x.number at)) q.2)) (ap (λ l. x ∷ l) rest)

  open_later : (x : LogLine) (at : ℕ) → is_send x.entry.kind ≡ false → at ≤ x.number → is_open at x ≡ true
  open_later x at its low = ap₂ (λ s l. s || not l) its (le-ltb x.number at low)

  open_earlier : (x : LogLine) (at : ℕ) → is_send x.entry.kind ≡ false → x.number < at → is_open at x ≡ false
  open_earlier x at its less = ap₂ (λ s l. s || not l) its (lt-ltb x.number at less)

  open_all : (next : List (Option ℕ)) (at low : ℕ) → at ≤ low → (entry : Option ℕ) (list : List LogLine) → IsQueue lines false next low entry list → filter (is_open at) list ≡ list
  open_all next at low less entry [] q = refl
  open_all next at low less entry (x ∷ xs) q =
      let rest = open_all next at (x.number + 1) (omega (arith, q.3)) (get_or next x.number None) xs q.5 in
      subst (λ b. cond b (x ∷ filter (is_open at) xs) (filter (is_open at) xs) ≡ x ∷ xs) (sym (open_later x at q.2 (omega (arith, q.3)))) (ap (λ l. x ∷ l) rest)

  -- lines were dropped from a queue, and this is its next one
  pub record HasLeft (next : List (Option ℕ)) (at : ℕ) (list : List LogLine) (entry : Option ℕ) : Type 0 where
    pub low : ℕ
    pub rest : List LogLine
    pub is : IsQueue lines false next low entry rest
    pub same : filter (is_open at) list ≡ filter (is_open at) rest

  pub left_begins : (next : List (Option ℕ)) (at : ℕ) (entry : Option ℕ) (list : List LogLine) → IsQueue lines false next 0 entry list → HasLeft next at list entry
  left_begins next at entry list q = record { low = 0; rest = list; is = q; same = refl }

  pub left_goes : (next : List (Option ℕ)) (at n : ℕ) (entry : Option ℕ) (list : List LogLine) → entry ≡ Some n → n < at → HasLeft next at list entry → HasLeft next at list (get_or next n None)
  left_goes next at n entry list some less left =
      let its = queue_some lines false next left.low n entry left.rest left.is some in
      let earlier : is_open at its.x ≡ false = open_earlier its.x at its.its (omega (arith, its.number)) in
      let gone : filter (is_open at) left.rest ≡ filter (is_open at) its.xs = ap (filter (is_open at)) its.is ∙ ap (λ b. cond b (its.x ∷ filter (is_open at) its.xs) (filter (is_open at) its.xs)) earlier in
      record { low = n + 1; rest = its.xs; is = its.rest; same = left.same ∙ gone }

  pub left_stops : (next : List (Option ℕ)) (at n : ℕ) (entry : Option ℕ) (list : List LogLine) → entry ≡ Some n → at ≤ n → HasLeft next at list entry → IsQueue lines false next 0 entry (filter (is_open at) list)
  left_stops next at n entry list some low left =
      let its = queue_some lines false next left.low n entry left.rest left.is some in
      let from : IsQueue lines false next n entry left.rest = subst (λ l. IsQueue lines false next n entry l) (sym its.is) (
        some ∙ ap (λ k. Some k) (sym its.number),
        ap (slice_get lines) its.number ∙ its.here,
        its.its,
        omega (arith, its.number),
        omega (arith, its.within, its.number),
        subst (λ k. IsQueue lines false next (k + 1) (get_or next k None) its.xs) (sym its.number) its.rest,
      ) in
      subst (λ l. IsQueue lines false next 0 entry l) (sym (left.same ∙ open_all next at n low entry left.rest from)) (queue_low lines false next n 0 (omega arith) entry left.rest from)

  pub left_ends : (next : List (Option ℕ)) (at : ℕ) (entry : Option ℕ) (list : List LogLine) → entry ≡ None → HasLeft next at list entry → IsQueue lines false next 0 None (filter (is_open at) list)
  left_ends next at entry list none left =
      let gone = queue_none lines false next left.low entry left.rest left.is none in
      subst (λ l. IsQueue lines false next 0 None l) (sym (left.same ∙ ap (filter (is_open at)) gone)) refl

-- how far the walk along a queue may continue
abbrev pub left_after : List (Option ℕ) → Option ℕ → ℕ
left_after next None = zero
left_after next (Some n) = length next - n + 1

pub after_less : (lines : List LogLine) (sends : Bool) (next : List (Option ℕ)) (low n : ℕ) (entry : Option ℕ) (list : List LogLine) → IsQueue lines sends next low entry list → entry ≡ Some n
    → left_after next (get_or next n None) < left_after next (Some n)
after_less lines sends next low n entry list q some =
    let its = queue_some lines sends next low n entry list q some in
    go its.within its.xs (get_or next n None) its.rest
  where
    go : n < length next → (xs : List LogLine) (e : Option ℕ) → IsQueue lines sends next (n + 1) e xs → left_after next e < left_after next (Some n)
    go within [] e rest = subst (λ k. left_after next k < left_after next (Some n)) (sym rest) (omega arith)
    go within (x ∷ xs) e rest = subst (λ k. left_after next k < left_after next (Some n)) (sym rest.0) (let low_is = rest.3 in let more = rest.4 in omega arith)

-- the walk along any queue ends: its next line, and how far it continues
pub some_less : (next : List (Option ℕ)) (n : ℕ) (entry : Option ℕ) → entry ≡ Some n → IsSomeQueue next entry → left_after next (get_or next n None) < left_after next entry
some_less next n entry some queue = subst (λ e. left_after next (get_or next n None) < left_after next e) (sym some) (after_less queue.lines queue.sends next queue.low n entry queue.list queue.is some)

pub some_goes : (next : List (Option ℕ)) (n : ℕ) (entry : Option ℕ) → entry ≡ Some n → IsSomeQueue next entry → IsSomeQueue next (get_or next n None)
some_goes next n entry some queue =
    let its = queue_some queue.lines queue.sends next queue.low n entry queue.list queue.is some in
    record { lines = queue.lines; sends = queue.sends; list = its.xs; low = n + 1; is = its.rest }

-- a line's stream has an entry
pub stream_in : (lines : List LogLine) → IsLog lines → (n : ℕ) (x : LogLine) → slice_get lines n ≡ Some x → x.entry.stream < length lines
stream_in lines log n x here = All-contains (λ (y : LogLine). y.entry.stream < length lines) lines x log.streams (contained_get lines n x here)

-- built from the last line back
module _ (lines : List LogLine) (log : IsLog lines) (sends : Bool) (test : LogLine → Bool) where
  pub queues_begin : (first next : List (Option ℕ)) (n : ℕ) → length lines ≤ n → length first ≡ length lines → length next ≡ length lines → ((c : ℕ) → get_or first c None ≡ None)
      → AreQueues lines sends first next n (of_stream test (drop n lines))
  queues_begin first next n past first_whole next_whole none = record {
    first_whole = first_whole;
    next_whole = next_whole;
    each = λ c. subst (λ l. IsQueue lines sends next n (get_or first c None) (of_stream test l c)) (sym (drop_all n lines past)) (none c);
  }

  module _ (first next : List (Option ℕ)) (n : ℕ) (x : LogLine) (here : slice_get lines n ≡ Some x) (are : AreQueues lines sends first next (n + 1) (of_stream test (drop (n + 1) lines))) where
    cut : drop n lines ≡ x ∷ drop (n + 1) lines
    cut = drop_more lines n x (slice_get_within lines n x here) ∙ ap (λ y. y ∷ drop (n + 1) lines) (get_or_from_slice_get lines n x x here)

    pub queues_pass : test x ≡ false → AreQueues lines sends first next n (of_stream test (drop n lines))
    queues_pass fails = record {
      first_whole = are.first_whole;
      next_whole = are.next_whole;
      each = λ c. subst (λ l. IsQueue lines sends next n (get_or first c None) (of_stream test l c)) (sym cut)
          (subst (λ b. IsQueue lines sends next n (get_or first c None) (cond (b && x.entry.stream == c) (x ∷ of_stream test (drop (n + 1) lines) c) (of_stream test (drop (n + 1) lines) c))) (sym fails)
          (queue_low lines sends next (n + 1) n (omega arith) (get_or first c None) (of_stream test (drop (n + 1) lines) c) (are.each c)));
    }

    pub queues_put : test x ≡ true → is_send x.entry.kind ≡ sends → x.entry.stream < length first
        → AreQueues lines sends (set first x.entry.stream (Some n)) (set next n (get_or first x.entry.stream None)) n (of_stream test (drop n lines))
    queues_put passes its within = record {
      first_whole = length-set first x.entry.stream (Some n) ∙ are.first_whole;
      next_whole = length-set next n (get_or first x.entry.stream None) ∙ are.next_whole;
      each = λ c. subst (λ l. IsQueue lines sends next' n (get_or first' c None) (of_stream test l c)) (sym cut)
          (subst (λ b. IsQueue lines sends next' n (get_or first' c None) (cond (b && x.entry.stream == c) (x ∷ of_stream test (drop (n + 1) lines) c) (of_stream test (drop (n + 1) lines) c))) (sym passes)
          (go c (x.entry.stream == c) refl));
    }
      where
        behind : Option ℕ
        behind = get_or first x.entry.stream None

        first' : List (Option ℕ)
        first' = set first x.entry.stream (Some n)

        next' : List (Option ℕ)
        next' = set next n (get_or first x.entry.stream None)

        go : (c : ℕ) (same : Bool) → (x.entry.stream == c) ≡ same
            → IsQueue lines sends (set next n (get_or first x.entry.stream None)) n (get_or (set first x.entry.stream (Some n)) c None) (cond same (x ∷ of_stream test (drop (n + 1) lines) c) (of_stream test (drop (n + 1) lines) c))
        go c true same =
            subst (λ k. IsQueue lines sends (set next n (get_or first x.entry.stream None)) n (get_or (set first x.entry.stream (Some n)) k None) (x ∷ of_stream test (drop (n + 1) lines) k)) (eqb-true x.entry.stream c same)
            (subst (λ e. IsQueue lines sends (set next n (get_or first x.entry.stream None)) n e (x ∷ of_stream test (drop (n + 1) lines) x.entry.stream)) (sym (get_or-set_same first x.entry.stream (Some n) None within))
            (queue_put lines sends next n x (get_or first x.entry.stream None) (of_stream test (drop (n + 1) lines) x.entry.stream) here (log.numbered n x here) its
            (let inside = slice_get_within lines n x here in omega (arith, inside, are.next_whole)) (are.each x.entry.stream)))
        go c false other =
            subst (λ e. IsQueue lines sends (set next n (get_or first x.entry.stream None)) n e (of_stream test (drop (n + 1) lines) c)) (sym (get_or-set_other first x.entry.stream c (Some n) None (λ e. eqb-false x.entry.stream c other (sym e))))
            (queue_low lines sends (set next n (get_or first x.entry.stream None)) (n + 1) n (omega arith) (get_or first c None) (of_stream test (drop (n + 1) lines) c)
            (queue_set lines sends next n (get_or first x.entry.stream None) (n + 1) (omega arith) (get_or first c None) (of_stream test (drop (n + 1) lines) c) (are.each c)))

-- whether a line takes the message of another line
is_sent : (n : ℕ) (t : Option ℕ) → is_sent_at n t ≡ true → t ≡ Some n
is_sent n None e = absurd (false≢true e)
is_sent n (Some t) e = ap (λ k. Some k) (eqb-true t n e)

pub left_same : (lines : List LogLine) (takers : List (Option ℕ)) → AreTakers lines takers → (n : ℕ) (x : LogLine) → slice_get lines n ≡ Some x → x.number ≡ n
    → (is_send x.entry.kind && is_none (get_or takers n None)) ≡ is_left lines x
left_same lines takers are n x here number = ap (λ b. is_send x.entry.kind && b) (go (get_or takers n None) (are.each n (slice_get_within lines n x here)) ∙ ap (λ k. not (list_any (λ (y : LogLine). is_sent_at k y.send) lines)) (sym number))
  where
    go : (entry : Option ℕ) → IsFirst (Takes lines n) (length lines) entry → is_none entry ≡ not (list_any (λ (y : LogLine). is_sent_at n y.send) lines)
    go None none = go_none (list_any (λ (y : LogLine). is_sent_at n y.send) lines) refl
      where
        go_none : (b : Bool) → list_any (λ (y : LogLine). is_sent_at n y.send) lines ≡ b → true ≡ not b
        go_none false e = refl
        go_none true e =
            let any = Any-from_list_any (λ (y : LogLine). is_sent_at n y.send) lines e in
            absurd (none any.0 any.2 (record { line = any.1; is = slice_get-get_or lines any.0 any.1 any.2 ∙ ap (λ y. Some y) any.3; send = is_sent n any.1.send any.4 }))
    go (Some t) some =
        let its = some.1 in
        ap not
        (sym
        (list_any-from_Any (λ (y : LogLine). is_sent_at n y.send) lines (
          t,
          its.line,
          slice_get_within lines t its.line its.is,
          get_or_from_slice_get lines t its.line its.line its.is,
          ap (is_sent_at n) its.send ∙ eq-eqb n n refl,
        )))
