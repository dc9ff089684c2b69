-- The message of each arrival, one after the other.
use Rattle.std.proofs.Common.{◌≡◌, ◌≢◌, ℕ, ◌+◌, ◌<◌, ◌↔◌, ◌==◌, inl, inr, Bool, true, false, List, [], ◌∷◌, ◌++◌, Option, None, Some, length, get_or, replicate, drop, cond, refl, sym, ap, ap₂, ◌∙◌, subst, arith, eqb-true, eq-eqb, add-one}
use Rattle.std.specs.Prelude.{slice_get, Contains, IsTrue, nat_lt, filter, if◌then◌else◌, ◌⊎◌}
use Rattle.std.proofs.lemmas.Bool.{cases_eq, cases_lt, false≢true, ltb-true, lt-ltb}
use Rattle.std.proofs.lemmas.List.Elements.{filter-append}
use Rattle.std.proofs.lemmas.Option.{slice_get_within}
use Rattle.log_chart.specs.Entries.{is_send}
use Rattle.log_chart.specs.Items.{message_of, received_message, naming_line}
use Rattle.log_chart.specs.declared.item.MessageNo.{MessageNo}
use Rattle.log_chart.specs.declared.item.MessageNo.TheVariants as messages
use Rattle.log_chart.specs.declared.matching.LogLine.{LogLine}
use Rattle.race_verdicts.specs.Luck.ArrivalTables.{arrival_in, AreArrived, IsPut}
use Rattle.race_verdicts.specs.Luck.Arrivals.{IsArrivalOf, IsFirstArrival, CameFirst, waiting, behind, is_open, of_stream, receives, is_left}
use Rattle.race_verdicts.specs.Luck.QueueTables.{IsSomeQueue, AreQueues, AreWaiting, with_list, first_number}
use Rattle.race_verdicts.specs.Luck.Recorded.{IsLog}
use Rattle.race_verdicts.specs.Luck.Tables.{IsFirst}
use Rattle.race_verdicts.proofs.LuckLemmas.LogLemmas.{contained_get, number_within, taken_within}
use Rattle.race_verdicts.proofs.LuckLemmas.QueueLemmas.{HasFirst, open_sends, queue_some, number_first}
use Rattle.race_verdicts.proofs.LuckLemmas.TableLemmas.{some_same, first_pass, first_kept, first_found, none_at, none_whole}
use Rattle.race_verdicts.specs.Recordings.{RecordingView}
use Rattle.race_verdicts.specs.declared.recording.Arrival.{Arrival}

-- the line that names a message of the log is a line of the log
pub message_within : (lines : List LogLine) → IsLog lines → (x : LogLine) → Contains lines x → naming_line (message_of x) < length lines
message_within lines log x has = go (is_send x.entry.kind)
  where
    taken : (t : Option ℕ) → x.send ≡ t → naming_line (received_message x.number t) < length lines
    taken (Some s) e = taken_within lines log x s has e
    taken None e = number_within lines log x has

    go : (its : Bool) → naming_line (if its then messages.Sent x.number else received_message x.number x.send) < length lines
    go true = number_within lines log x has
    go false = taken x.send refl

-- an arrival is that of at most one message
pub one_message : (lines : List LogLine) (arrivals : List Arrival) (i : ℕ) (m o : MessageNo) → IsArrivalOf lines arrivals m i → IsArrivalOf lines arrivals o i → m ≡ o
one_message lines arrivals i m o one two =
    let same : one.arrival ≡ two.arrival = some_same (sym one.is ∙ two.is) in
    let line : one.line ≡ two.line = some_same (sym one.first ∙ ap (λ (a : Arrival). slice_get (filter (is_open a.«at») (waiting lines arrivals i a.stream)) 0) same ∙ two.first) in
    one.message ∙ ap message_of line ∙ sym two.message

-- at first all messages of a stream wait
pub waiting_begins : (lines : List LogLine) (arrivals : List Arrival) (c : ℕ) → waiting lines arrivals 0 c ≡ of_stream receives lines c ++ of_stream (is_left lines) lines c
unfolding waiting
waiting_begins lines arrivals c = refl

-- the messages that wait after an arrival
module _ (lines : List LogLine) (arrivals : List Arrival) (i : ℕ) (a : Arrival) (here : slice_get arrivals i ≡ Some a) where
  pub waiting_next : (c : ℕ) → waiting lines arrivals (i + 1) c ≡ behind c (waiting lines arrivals i c) (Some a)
  unfolding waiting
  waiting_next c = ap (λ n. waiting lines arrivals n c) (add-one i) ∙ ap (behind c (waiting lines arrivals i c)) here

  module _ (received left : ℕ → List LogLine) (first next : List (Option ℕ)) (left_are : AreQueues lines true first next 0 left) (both : (c : ℕ) → waiting lines arrivals i c ≡ received c ++ left c) where
    -- the messages that no line above receives
    abbrev kept : List LogLine
    kept = filter (is_open a.«at») (received a.stream)

    open_is : filter (is_open a.«at») (waiting lines arrivals i a.stream) ≡ kept ++ left a.stream
    open_is =
        ap (filter (is_open a.«at»)) (both a.stream) ∙ filter-append (is_open a.«at») (received a.stream) (left a.stream)
        ∙ ap (λ l. kept ++ l) (open_sends lines next a.«at» 0 (get_or first a.stream None) (left a.stream) (left_are.each a.stream))

    pub arrived_first : (x : LogLine) (xs : List LogLine) → kept ++ left a.stream ≡ x ∷ xs → IsArrivalOf lines arrivals (message_of x) i
    arrived_first x xs is = record { arrival = a; is = here; line = x; first = ap (λ l. slice_get l 0) (open_is ∙ is); message = refl }

    pub arrived_never : kept ++ left a.stream ≡ [] → (m : MessageNo) → IsArrivalOf lines arrivals m i → ⊥
    arrived_never none m its =
        let same : its.arrival ≡ a = some_same (sym its.is ∙ here) in
        let first : slice_get (filter (is_open a.«at») (waiting lines arrivals i a.stream)) 0 ≡ Some its.line =
        subst (λ (b : Arrival). slice_get (filter (is_open b.«at») (waiting lines arrivals i b.stream)) 0 ≡ Some its.line) same its.first in
        let gone : None ≡ Some its.line = sym (ap (λ l. slice_get l 0) (open_is ∙ none)) ∙ first in
        absurd (cc gone)

    -- the lists of the streams, after the first of these messages was removed
    module _ (others : ℕ → List LogLine) (others_left : ℕ → List LogLine) (taken : others a.stream ++ others_left a.stream ≡ drop 1 (kept ++ left a.stream))
        (stays : (c : ℕ) → (a.stream == c) ≡ false → others c ++ others_left c ≡ received c ++ left c) where
      pub both_next : (c : ℕ) → waiting lines arrivals (i + 1) c ≡ others c ++ others_left c
      both_next c = waiting_next c ∙ go (a.stream == c) refl
        where
          go : (its : Bool) → (a.stream == c) ≡ its → cond its (drop 1 (filter (is_open a.«at») (waiting lines arrivals i c))) (waiting lines arrivals i c) ≡ others c ++ others_left c
          go true same =
              subst (λ k. drop 1 (filter (is_open a.«at») (waiting lines arrivals i k)) ≡ others k ++ others_left k) (eqb-true a.stream c same)
              (ap (drop 1) open_is ∙ sym taken)
          go false other = both c ∙ sym (stays c other)

-- one list was changed
pub with_same : (lists : ℕ → List LogLine) (c : ℕ) (list : List LogLine) → with_list lists c list c ≡ list
with_same lists c list = ap (λ b. cond b list (lists c)) (eq-eqb c c refl)

pub with_other : (lists : ℕ → List LogLine) (c : ℕ) (list : List LogLine) (d : ℕ) → (c == d) ≡ false → with_list lists c list d ≡ lists d
with_other lists c list d other = ap (λ b. cond b list (lists d)) other

-- a line of the stream was removed, from its receives or from its sends that no line takes
module _ (lines : List LogLine) (arrivals : List Arrival) (i : ℕ) (a : Arrival) (here : slice_get arrivals i ≡ Some a) (received left : ℕ → List LogLine) (first next : List (Option ℕ))
    (left_are : AreQueues lines true first next 0 left) (both : (c : ℕ) → waiting lines arrivals i c ≡ received c ++ left c) where
  abbrev opened : ℕ → List LogLine
  opened = with_list received a.stream (filter (is_open a.«at») (received a.stream))

  abbrev pub others_received : ℕ → List LogLine
  others_received = with_list opened a.stream (drop 1 (opened a.stream))

  opened_is : opened a.stream ≡ filter (is_open a.«at») (received a.stream)
  opened_is = with_same received a.stream (filter (is_open a.«at») (received a.stream))

  others_stay : (c : ℕ) → (a.stream == c) ≡ false → others_received c ≡ received c
  others_stay c other = with_other opened a.stream (drop 1 (opened a.stream)) c other ∙ with_other received a.stream (filter (is_open a.«at») (received a.stream)) c other

  pub next_received : (x : LogLine) (xs : List LogLine) → opened a.stream ≡ x ∷ xs → (c : ℕ) → waiting lines arrivals (i + 1) c ≡ others_received c ++ left c
  next_received x xs is =
      let kept_is = sym opened_is ∙ is in
      both_next lines arrivals i a here received left first next left_are both others_received left
      (ap (λ l. l ++ left a.stream) (with_same opened a.stream (drop 1 (opened a.stream)) ∙ ap (drop 1) is) ∙ sym (ap (λ l. drop 1 (l ++ left a.stream)) kept_is))
      (λ c other. ap (λ l. l ++ left c) (others_stay c other))

  pub received_arrived : (x : LogLine) (xs : List LogLine) → opened a.stream ≡ x ∷ xs → IsArrivalOf lines arrivals (message_of x) i
  received_arrived x xs is = arrived_first lines arrivals i a here received left first next left_are both x (xs ++ left a.stream) (ap (λ l. l ++ left a.stream) (sym opened_is ∙ is))

  none_kept : opened a.stream ≡ [] → filter (is_open a.«at») (received a.stream) ++ left a.stream ≡ left a.stream
  none_kept none = ap (λ l. l ++ left a.stream) (sym opened_is ∙ none)

  pub next_left : opened a.stream ≡ [] → (c : ℕ) → waiting lines arrivals (i + 1) c ≡ others_received c ++ with_list left a.stream (drop 1 (left a.stream)) c
  next_left none =
      both_next lines arrivals i a here received left first next left_are both others_received (with_list left a.stream (drop 1 (left a.stream)))
      (ap₂ (λ l r. l ++ r) (with_same opened a.stream (drop 1 (opened a.stream)) ∙ ap (drop 1) none) (with_same left a.stream (drop 1 (left a.stream))) ∙ sym (ap (drop 1) (none_kept none)))
      (λ c other. ap₂ (λ l r. l ++ r) (others_stay c other) (with_other left a.stream (drop 1 (left a.stream)) c other))

  pub left_arrived : opened a.stream ≡ [] → (x : LogLine) (xs : List LogLine) → left a.stream ≡ x ∷ xs → IsArrivalOf lines arrivals (message_of x) i
  left_arrived none x xs is = arrived_first lines arrivals i a here received left first next left_are both x xs (none_kept none ∙ is)

  pub never_arrived : opened a.stream ≡ [] → left a.stream ≡ [] → (m : MessageNo) → IsArrivalOf lines arrivals m i → ⊥
  never_arrived none none_left = arrived_never lines arrivals i a here received left first next left_are both (none_kept none ∙ none_left)

-- the first line of a list, by its number
no_first : (list : List LogLine) → None ≡ first_number list → list ≡ []
no_first [] e = refl
no_first (x ∷ xs) e = absurd (cc e)

-- the messages that wait after one more arrival, and the message of this arrival
module _ (lines : List LogLine) (arrivals : List Arrival) (i : ℕ) (a : Arrival) (here : slice_get arrivals i ≡ Some a) (received received_next left left_next : List (Option ℕ))
    (w : AreWaiting lines arrivals i received received_next left left_next) where
  abbrev pub opened_lists : ℕ → List LogLine
  opened_lists = with_list w.received_lists a.stream (filter (is_open a.«at») (w.received_lists a.stream))

  abbrev pub then_lists : ℕ → List LogLine
  then_lists = with_list opened_lists a.stream (drop 1 (opened_lists a.stream))

  abbrev pub left_then : ℕ → List LogLine
  left_then = with_list w.left_lists a.stream (drop 1 (w.left_lists a.stream))

  pub some_queue : IsSomeQueue received_next (get_or received a.stream None)
  some_queue = record { lines = lines; sends = false; list = w.received_lists a.stream; low = 0; is = let are = w.received_are in are.each a.stream }

  -- the first line of a stream
  first_at : (sends : Bool) (first next : List (Option ℕ)) (lists : ℕ → List LogLine) → AreQueues lines sends first next 0 lists → (n : ℕ) → Some n ≡ first_number (lists a.stream) → HasFirst lines sends next 0 n (lists a.stream)
  first_at sends first next lists are n some =
      let q = are.each a.stream in
      queue_some lines sends next 0 n (get_or first a.stream None) (lists a.stream) q (number_first lines sends next 0 (get_or first a.stream None) (lists a.stream) q ∙ sym some)

  pub number_in : (sends : Bool) (first next : List (Option ℕ)) (lists : ℕ → List LogLine) → AreQueues lines sends first next 0 lists → (n : ℕ) → Some n ≡ first_number (lists a.stream) → n < length lines
  number_in sends first next lists are n some = let its = first_at sends first next lists are n some in slice_get_within lines n its.x its.here

  -- the arrival is that of the message of the line with this number
  pub record IsAtLine (n : ℕ) : Type 0 where
    pub line : LogLine
    pub stands : slice_get lines n ≡ Some line
    pub its : IsArrivalOf lines arrivals (message_of line) i

  pub arrived_received : (opened_first opened_next first next : List (Option ℕ)) → AreQueues lines false opened_first opened_next 0 opened_lists → AreQueues lines false first next 0 then_lists
      → (n : ℕ) → Some n ≡ first_number (opened_lists a.stream) → AreWaiting lines arrivals (i + 1) first next left left_next × IsAtLine n
  arrived_received opened_first opened_next first next opened are n some =
      let its = first_at false opened_first opened_next opened_lists opened n some in (
        record {
          received_lists = then_lists;
          left_lists = w.left_lists;
          received_are = are;
          left_are = w.left_are;
          both = next_received lines arrivals i a here w.received_lists w.left_lists left left_next w.left_are w.both its.x its.xs its.is;
        },
        record { line = its.x; stands = its.here; its = received_arrived lines arrivals i a here w.received_lists w.left_lists left left_next w.left_are w.both its.x its.xs its.is },
      )

  pub arrived_left : (first next left_first left_behind : List (Option ℕ)) → AreQueues lines false first next 0 then_lists → AreQueues lines true left_first left_behind 0 left_then
      → None ≡ first_number (opened_lists a.stream) → (n : ℕ) → Some n ≡ first_number (w.left_lists a.stream)
      → AreWaiting lines arrivals (i + 1) first next left_first left_behind × IsAtLine n
  arrived_left first next left_first left_behind are left_is none n some =
      let its = first_at true left left_next w.left_lists w.left_are n some in (
        record {
          received_lists = then_lists;
          left_lists = left_then;
          received_are = are;
          left_are = left_is;
          both = next_left lines arrivals i a here w.received_lists w.left_lists left left_next w.left_are w.both (no_first (opened_lists a.stream) none);
        },
        record { line = its.x; stands = its.here; its = left_arrived lines arrivals i a here w.received_lists w.left_lists left left_next w.left_are w.both (no_first (opened_lists a.stream) none) its.x its.xs its.is },
      )

  pub arrival_message : IsLog lines → (n : ℕ) → IsAtLine n → (m : MessageNo) → ((x : LogLine) → slice_get lines n ≡ Some x → m ≡ message_of x)
      → IsArrivalOf lines arrivals m i × (naming_line m < length lines)
  arrival_message log n here m is =
      subst (λ k. IsArrivalOf lines arrivals k i × (naming_line k < length lines)) (sym (is here.line here.stands)) (here.its, message_within lines log here.line (contained_get lines n here.line here.stands))

  pub arrived_nothing : (first next left_first left_behind : List (Option ℕ)) → AreQueues lines false first next 0 then_lists → AreQueues lines true left_first left_behind 0 left_then
      → None ≡ first_number (opened_lists a.stream) → None ≡ first_number (w.left_lists a.stream)
      → AreWaiting lines arrivals (i + 1) first next left_first left_behind × ((m : MessageNo) → IsArrivalOf lines arrivals m i → ⊥)
  arrived_nothing first next left_first left_behind are left_is none none_left = (
    record {
      received_lists = then_lists;
      left_lists = left_then;
      received_are = are;
      left_are = left_is;
      both = next_left lines arrivals i a here w.received_lists w.left_lists left left_next w.left_are w.both (no_first (opened_lists a.stream) none);
    },
    never_arrived lines arrivals i a here w.received_lists w.left_lists left left_next w.left_are w.both (no_first (opened_lists a.stream) none) (no_first (w.left_lists a.stream) none_left),
  )

same_message : (a b : MessageNo) → (a ≡ b) ⊎ (a ≢ b)
same_message (messages.Sent n) (messages.Sent k) =
    elim (cases_eq n k) [
      | inl same ↦ inl (ap (λ i. messages.Sent i) same)
      | inr other ↦ inr (λ e. other (cc e))
    ]
same_message (messages.Sent n) (messages.Begun k) = inr (λ e. absurd (cc e))
same_message (messages.Begun n) (messages.Sent k) = inr (λ e. absurd (cc e))
same_message (messages.Begun n) (messages.Begun k) =
    elim (cases_eq n k) [
      | inl same ↦ inl (ap (λ i. messages.Begun i) same)
      | inr other ↦ inr (λ e. other (cc e))
    ]

-- one more arrival
module _ (lines : List LogLine) (arrivals : List Arrival) (n : ℕ) (sent begun : List (Option ℕ)) (are : AreArrived lines arrivals n sent begun) where
  pub arrived_pass : ((m : MessageNo) → IsArrivalOf lines arrivals m n → ⊥) → AreArrived lines arrivals (n + 1) sent begun
  arrived_pass none = record {
    sent_whole = are.sent_whole;
    begun_whole = are.begun_whole;
    each = λ m within. first_pass (IsArrivalOf lines arrivals m) n (arrival_in sent begun m) (none m) (are.each m within);
  }

  pub arrived_put : (m : MessageNo) (sent' begun' : List (Option ℕ)) → IsArrivalOf lines arrivals m n → IsPut sent begun sent' begun' m n → AreArrived lines arrivals (n + 1) sent' begun'
  arrived_put m sent' begun' its put = record {
    sent_whole = put.sent_whole ∙ are.sent_whole;
    begun_whole = put.begun_whole ∙ are.begun_whole;
    each = λ o within.
        elim (same_message o m) [
          | inl same ↦
              subst (λ k. IsFirst (IsArrivalOf lines arrivals k) (n + 1) (arrival_in sent' begun' k)) (sym same)
              (go (arrival_in sent begun m) refl (subst (λ k. IsFirst (IsArrivalOf lines arrivals k) n (arrival_in sent begun k)) same (are.each o within)))
          | inr other ↦
              subst (IsFirst (IsArrivalOf lines arrivals o) (n + 1)) (sym (put.others o other))
              (first_pass (IsArrivalOf lines arrivals o) n (arrival_in sent begun o) (λ its_too. other (one_message lines arrivals n o m its_too its)) (are.each o within))
        ];
  }
    where
      go : (entry : Option ℕ) → arrival_in sent begun m ≡ entry → IsFirst (IsArrivalOf lines arrivals m) n (arrival_in sent begun m)
          → IsFirst (IsArrivalOf lines arrivals m) (n + 1) (arrival_in sent' begun' m)
      go None e first =
          subst (IsFirst (IsArrivalOf lines arrivals m) (n + 1)) (sym (put.noted e)) (first_found (IsArrivalOf lines arrivals m) n its (subst (IsFirst (IsArrivalOf lines arrivals m) n) e first))
      go (Some k) e first =
          subst (IsFirst (IsArrivalOf lines arrivals m) (n + 1)) (sym (put.kept k e)) (first_kept (IsArrivalOf lines arrivals m) n k (subst (IsFirst (IsArrivalOf lines arrivals m) n) e first))

-- no arrival yet
pub arrived_none : (lines : List LogLine) (arrivals : List Arrival) (sent begun : List (Option ℕ)) → sent ≡ replicate (length lines) None → begun ≡ replicate (length lines) None → AreArrived lines arrivals 0 sent begun
arrived_none lines arrivals sent begun sent_is begun_is = record {
  sent_whole = none_whole (length lines) sent sent_is;
  begun_whole = none_whole (length lines) begun begun_is;
  each = λ m within. subst (IsFirst (IsArrivalOf lines arrivals m) 0) (sym (go m)) (λ k less its. absurd (omega arith));
}
  where
    go : (m : MessageNo) → arrival_in sent begun m ≡ None
    go (messages.Sent n) = ap (λ t. get_or t n None) sent_is ∙ none_at (length lines) n
    go (messages.Begun n) = ap (λ t. get_or t n None) begun_is ∙ none_at (length lines) n

-- all arrivals
pub arrived_all : (lines : List LogLine) (arrivals : List Arrival) (n : ℕ) (sent begun : List (Option ℕ)) → n ≡ length arrivals → AreArrived lines arrivals n sent begun
    → AreArrived lines arrivals (length arrivals) sent begun
arrived_all lines arrivals n sent begun all are = subst (λ k. AreArrived lines arrivals k sent begun) all are

-- the message that came first
module _ (rec : RecordingView) where
  first_is : (m : MessageNo) (k : ℕ) (entry : Option ℕ) → IsFirst (IsArrivalOf rec.lines rec.arrivals m) (length rec.arrivals) entry → IsFirstArrival rec m k → entry ≡ Some k
  first_is m k None none first = absurd (let its = first.its in none k (slice_get_within rec.arrivals k its.arrival its.is) its)
  first_is m k (Some i) are first =
      ap (λ n. Some n)
      (elim (cases_lt i k) [
        | inl less ↦ absurd (first.first i less are.1)
        | inr past ↦
            elim (cases_lt k i) [
              | inl less ↦ absurd (are.2 k less first.its)
              | inr past_too ↦ omega arith
            ]
      ])

  is_first : (m : MessageNo) (i : ℕ) → IsFirst (IsArrivalOf rec.lines rec.arrivals m) (length rec.arrivals) (Some i) → IsFirstArrival rec m i
  is_first m i are = record { its = are.1; first = λ j less its. are.2 j less its }

  module _ (m o : MessageNo) (entry other : Option ℕ) (are : IsFirst (IsArrivalOf rec.lines rec.arrivals m) (length rec.arrivals) entry)
      (others : IsFirst (IsArrivalOf rec.lines rec.arrivals o) (length rec.arrivals) other) where
    pub came_both : (i j : ℕ) → entry ≡ Some i → other ≡ Some j → IsTrue (nat_lt i j) ↔ CameFirst rec m o
    came_both i j is is_too = (
      λ less. record {
        place = i;
        other_place = j;
        arrived = is_first m i (subst (IsFirst (IsArrivalOf rec.lines rec.arrivals m) (length rec.arrivals)) is are);
        other_arrived = is_first o j (subst (IsFirst (IsArrivalOf rec.lines rec.arrivals o) (length rec.arrivals)) is_too others);
        sooner = ltb-true i j less;
      },
      λ came.
          let one : i ≡ came.place = some_same (sym is ∙ first_is m came.place entry are came.arrived) in
          let two : j ≡ came.other_place = some_same (sym is_too ∙ first_is o came.other_place other others came.other_arrived) in
          let less = came.sooner in
          lt-ltb i j (omega arith),
    )

    pub came_not : (entry ≡ None) ⊎ (other ≡ None) → IsTrue false ↔ CameFirst rec m o
    came_not (inl is) = (λ yes. absurd (false≢true yes), λ came. absurd (let e = first_is m came.place entry are came.arrived in cc (e, is)))
    came_not (inr is) = (λ yes. absurd (false≢true yes), λ came. absurd (let e = first_is o came.other_place other others came.other_arrived in cc (e, is)))
