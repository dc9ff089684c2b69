-- One turn after another along the lines of a host, each of whose lanes has one stream.
use Rattle.std.proofs.Common.{◌≡◌, ℕ, zero, suc, ◌+◌, ◌<◌, ◌==◌, ◌&&◌, ◌⊎◌, inl, inr, Bool, true, false, cond, List, [], ◌∷◌, Option, None, Some, length, take, drop, get_or, refl, sym, ap, ap₂, ◌∙◌, subst, arith, add-one}
use Rattle.std.specs.Prelude.{All, Contains, fold}
use Rattle.std.specs.Cmp.Lexicographic.{slice_cmp}
use Rattle.std.specs.Ordering.{nat_cmp, ordering_then, is_lt}
use Rattle.std.specs.declared.cmp.Ordering.{Ordering}
use Rattle.std.specs.declared.cmp.Ordering.TheVariants.{Less, Equal, Greater}
use Rattle.std.proofs.lemmas.Bool.{cases_eq, false≢true, eqb-true}
use Rattle.std.proofs.lemmas.Cmp.{nat_list_cmp_total, tied_itself}
use Rattle.std.proofs.lemmas.List.Elements.{All-contains, All-get_or, All-weaker}
use Rattle.log_chart.specs.Entries.{is_send, takes, HaveStreams}
use Rattle.log_chart.specs.Fates.{sender_of, receiver_of}
use Rattle.log_chart.specs.HostLines.{kept}
use Rattle.log_chart.specs.Matching.{sends_from, send_for, left_after, matched_from, matched}
use Rattle.log_chart.specs.declared.entry.Entry.{Entry}
use Rattle.log_chart.specs.declared.entry.Kind.TheVariants.{Freed}
use Rattle.log_chart.specs.declared.matching.LogLine.{LogLine}
use Rattle.log_chart.specs.Cycles.Freeing.{IsOnCycle, is_sooner, IsFirst, freed, Settles, AreAmong}
use Rattle.log_chart.specs.Cycles.Freeing.Settles.{turn}
use Rattle.log_chart.specs.Cycles.Order.{Follows, Comes}
use Rattle.log_chart.specs.Cycles.Order.Follows.{host, message}
use Rattle.log_chart.specs.Cycles.Order.Comes.{direct, through}
use Rattle.log_chart.specs.Cycles.Turns.{IsPlainLine, left_before}
use Rattle.log_chart.proofs.LaneLists.{Has}
use Rattle.log_chart.proofs.TakenLanes.{AreLeft, left_then, all_left, after_has, stream_at}
use Rattle.log_chart.proofs.CyclesLemmas.FreedLemmas.{later_in}
use Rattle.log_chart.proofs.CyclesLemmas.HandedLemmas.{less_number, number_less, same_name}
use Rattle.log_chart.proofs.CyclesLemmas.KeptLemmas.{IsLeft, freed_sends, left_to, left_back}
use Rattle.log_chart.proofs.CyclesLemmas.OracleLemmas.{IsStripped, AreStripped}
use Rattle.log_chart.proofs.CyclesLemmas.PlainLemmas.{IsAlone}
use Rattle.log_chart.proofs.CyclesLemmas.SettleLemmas.{IsLineOf, takes_no_send, freed_one, freed_streams, freed_among, freed_length, kept_lines_of, kept_all}

-- a line with this number and the host's name
abbrev pub place_line : Entry → ℕ → LogLine
place_line first n = record { number = n; entry = first; send = None }

sooner_next : (first : Entry) (n : ℕ) (x : LogLine) → is_sooner x (place_line first (n + 1)) ≡ true → (is_sooner x (place_line first n) ≡ true) ⊎ ((x.entry.host_name ≡ first.host_name) × (x.number ≡ n))
sooner_next first n x its = go (slice_cmp nat_cmp x.entry.host_name first.host_name) refl its
  where
    go : (o : Ordering) → slice_cmp nat_cmp x.entry.host_name first.host_name ≡ o → is_lt (ordering_then o (nat_cmp x.number (n + 1))) ≡ true
        → (is_lt (ordering_then o (nat_cmp x.number n)) ≡ true) ⊎ ((x.entry.host_name ≡ first.host_name) × (x.number ≡ n))
    go Less e t = inl refl
    go Equal e t =
        elim (cases_eq x.number n) [
          | inl same ↦ inr (same_name x.entry.host_name first.host_name e, same)
          | inr other ↦ inl (number_less x.number n (let less = less_number x.number (n + 1) t in omega (arith, less, other)))
        ]
    go Greater e t = absurd (false≢true t)

named_same : (first : Entry) (n : ℕ) (x : LogLine) → x.entry.host_name ≡ first.host_name → is_sooner x (place_line first n) ≡ is_lt (nat_cmp x.number n)
named_same first n x named =
    ap (λ m. is_lt (ordering_then (slice_cmp nat_cmp m first.host_name) (nat_cmp x.number n))) named
    ∙ ap (λ o. is_lt (ordering_then o (nat_cmp x.number n))) (tied_itself nat_list_cmp_total first.host_name)

pub above_sooner : (first : Entry) (n : ℕ) (x : LogLine) → x.entry.host_name ≡ first.host_name → x.number < n → is_sooner x (place_line first n) ≡ true
above_sooner first n x named less = named_same first n x named ∙ number_less x.number n less

sooner_above : (first : Entry) (n : ℕ) (x : LogLine) → x.entry.host_name ≡ first.host_name → is_sooner x (place_line first n) ≡ true → x.number < n
sooner_above first n x named its = less_number x.number n (sym (named_same first n x named) ∙ its)

-- the lanes of a plain line's stream
pub plain_alone : (senders streams : ℕ → Option ℕ) (first f : Entry) (log : List Entry) → IsPlainLine senders streams first f → takes f.kind ≡ true → f.host ≡ first.host
    → All (IsPlainLine senders streams first) log → All (IsAlone f.stream f.peer first.host) log
plain_alone senders streams first f log its one own all = All-weaker (IsPlainLine senders streams first) (IsAlone f.stream f.peer first.host) alone log all
  where
    receives : is_send f.kind ≡ false
    receives = takes_no_send f.kind one

    at : receiver_of f ≡ first.host
    at = ap (λ b. cond b f.peer f.host) receives ∙ own

    from : sender_of f ≡ f.peer
    from = ap (λ b. cond b f.host f.peer) receives

    sender_is : senders f.stream ≡ Some f.peer
    sender_is = its.sender at ∙ ap (λ k. Some k) from

    stream_is : streams f.peer ≡ Some f.stream
    stream_is = ap streams (sym from) ∙ its.stream at

    alone : (e : Entry) → IsPlainLine senders streams first e → IsAlone f.stream f.peer first.host e
    alone e here = record {
      sender = λ g.
          elim (cases_eq (receiver_of e) first.host) [
            | inl to ↦ let same : Some (sender_of e) ≡ Some f.peer = sym (here.sender to) ∙ ap senders g ∙ sender_is in cc same
            | inr off ↦ absurd (let none = sym (here.other off) ∙ ap senders g ∙ sender_is in cc none)
          ];
      receiver = λ g.
          elim (cases_eq (receiver_of e) first.host) [
            | inl to ↦ to
            | inr off ↦ absurd (let none = sym (here.other off) ∙ ap senders g ∙ sender_is in cc none)
          ];
      stream = λ g h. let same : Some e.stream ≡ Some f.stream = sym (here.stream h) ∙ ap streams g ∙ stream_is in cc same;
    }

freed_plain : (senders streams : ℕ → Option ℕ) (first f : Entry) (k : ℕ) (log : List Entry) → k < length log → get_or log k f ≡ f → takes f.kind ≡ true
    → All (IsPlainLine senders streams first) log → All (IsPlainLine senders streams first) (freed k log)
freed_plain senders streams first f k log within is one all = freed_one (IsPlainLine senders streams first) keeps k log f within is one all
  where
    keeps : (e : Entry) → takes e.kind ≡ true → IsPlainLine senders streams first e → IsPlainLine senders streams first (record e { kind = Freed })
    keeps e its here =
        let receives = takes_no_send e.kind its in
        let to : receiver_of e ≡ e.host = ap (λ b. cond b e.peer e.host) receives in
        let from : sender_of e ≡ e.peer = ap (λ b. cond b e.host e.peer) receives in
        record {
          named = here.named;
          owned = here.owned;
          sender = λ g. here.sender (to ∙ g) ∙ ap (λ k. Some k) from;
          stream = λ g. ap streams (sym from) ∙ here.stream (to ∙ g);
          other = λ off. here.other (λ g. off (sym to ∙ g));
        }

freed_at : (k : ℕ) (log : List Entry) (d : Entry) → k < length log → takes (get_or (freed k log) k d).kind ≡ false
freed_at k [] d within = absurd (omega (arith, within))
freed_at zero (e ∷ log) d within = refl
freed_at (suc k) (e ∷ log) d within = freed_at k log d (omega (arith, within))

-- the turns up to line n of a host
pub record HasTurned (initial log : List Entry) (senders streams : ℕ → Option ℕ) (first : Entry) (others : List LogLine) (n : ℕ) : Type 0 where
  pub whole : length log ≡ length initial
  pub have : HaveStreams log
  pub among : (m : ℕ) → AreAmong m initial → AreAmong m log
  pub so_far : (out : List Entry) → Settles log out → Settles initial out
  pub plain : All (IsPlainLine senders streams first) log
  pub stripped : AreStripped first.host others (kept log)
  pub none : (j : ℕ) (on : IsOnCycle (kept log) j) → is_sooner on.line (place_line first n) ≡ true → ⊥

-- one more is freed
module _ (initial log : List Entry) (senders streams : ℕ → Option ℕ) (first : Entry) (others : List LogLine) (n : ℕ) (turned : HasTurned initial log senders streams first others n)
    (f : Entry) (within : n < length log) (is : get_or log n f ≡ f) (one : takes f.kind ≡ true) (own : f.host ≡ first.host) (is_first : IsFirst (kept log) n) where
  alone : All (IsAlone f.stream f.peer first.host) log
  alone = plain_alone senders streams first f log (subst (IsPlainLine senders streams first) is (All-get_or (IsPlainLine senders streams first) log n f within turned.plain)) one own turned.plain

  to : (x : LogLine) → Contains (kept log) x → (y : LogLine) × Contains (kept (freed n log)) y × IsLeft (kept log) first.host n x y
  to = left_to log n f within is one f.peer first.host alone

  back : (y : LogLine) → Contains (kept (freed n log)) y → (x : LogLine) × Contains (kept log) x × IsLeft (kept log) first.host n x y
  back = left_back log n f within is one f.peer first.host alone

  follows_back : (a b : ℕ) → Follows (kept (freed n log)) a b → Comes (kept log) a b
  follows_back a b (host x y has_x has_y is_a is_b same less) =
      let u = back x has_x in
      let v = back y has_y in
      direct (host u.0 v.0 u.1 v.1 (sym u.2.number ∙ is_a) (sym v.2.number ∙ is_b) (sym u.2.host ∙ same ∙ v.2.host) less)
  follows_back a b (message y has_y is_b takes_it) =
      let v = back y has_y in
      let at : v.0.number ≡ b = sym v.2.number ∙ is_b in
      elim (v.2.shift a takes_it) [
        | inl same ↦ direct (message v.0 v.1 at same)
        | inr w ↦ through (direct (message w.line w.among refl w.takes_it)) (direct (host w.line v.0 w.among v.1 refl at (w.host ∙ sym w.own) (omega (arith, w.high, at))))
      ]

  comes_back : (a b : ℕ) → Comes (kept (freed n log)) a b → Comes (kept log) a b
  comes_back a b (direct its) = follows_back a b its
  comes_back a b (through {d = d} one two) = through (comes_back a d one) (comes_back d b two)

  none_freed : (y : LogLine) → Contains (kept (freed n log)) y → y.number ≡ n → (s : ℕ) → y.send ≡ Some s → ⊥
  none_freed y has at s takes_it =
      let w = All-contains (IsLineOf (freed n log) 0) (kept (freed n log)) y (kept_lines_of (freed n log)) has in
      let i_is : w.1 ≡ n = omega (arith, w.4, at) in
      let e_is : get_or (freed n log) n w.0 ≡ w.0 = ap (λ i. get_or (freed n log) i w.0) (sym i_is) ∙ w.3 in
      false≢true (sym (freed_at n log w.0 within) ∙ ap (λ (e : Entry). takes e.kind) e_is ∙ w.6 s takes_it)

  sooner_same : (x y : LogLine) → y.number ≡ x.number → y.entry.host_name ≡ x.entry.host_name → is_sooner y (place_line first n) ≡ is_sooner x (place_line first n)
  sooner_same x y number name = ap₂ (λ k m. is_lt (ordering_then (slice_cmp nat_cmp m first.host_name) (nat_cmp k n))) number name

  none_after : (j : ℕ) (on : IsOnCycle (kept (freed n log)) j) → is_sooner on.line (place_line first (n + 1)) ≡ true → ⊥
  none_after j on its =
      elim (sooner_next first n on.line its) [
        | inr at ↦ none_freed on.line on.among at.1 on.send on.takes
        | inl sooner ↦
            let w = back on.line on.among in
            let before : is_sooner w.0 (place_line first n) ≡ true = sym (sooner_same w.0 on.line w.2.number w.2.name) ∙ sooner in
            elim (w.2.shift on.send on.takes) [
              | inl same ↦
                  turned.none j (record {
                    line = w.0;
                    among = w.1;
                    number = sym w.2.number ∙ on.number;
                    send = on.send;
                    takes = same;
                    cycle = comes_back j j on.cycle;
                  }) before
              | inr z ↦
                  let named = All-contains (λ (x : LogLine). IsPlainLine senders streams first x.entry) (kept log) w.0 (kept_all (IsPlainLine senders streams first) log turned.plain) w.1 in
                  let less = sooner_above first n w.0 (named.named z.own) before in
                  omega (arith, less, z.low, z.high)
            ]
      ]

  stripped_after : AreStripped first.host others (kept (freed n log))
  stripped_after = record {
    to = λ u has.
        let x = turned.stripped.to u has in
        let y = to x.0 x.1 in
        (y.0, y.1, joined u x.0 y.0 x.2 y.2 (λ at. turned.stripped.none u has at));
    back = λ y has.
        let x = back y has in
        let u = turned.stripped.back x.0 x.1 in
        (u.0, u.1, joined u.0 x.0 y u.2 x.2 (λ at. turned.stripped.none u.0 u.1 at));
    none = turned.stripped.none;
  }
    where
      joined : (u x y : LogLine) → IsStripped first.host u x → IsLeft (kept log) first.host n x y → (u.entry.host ≡ first.host → u.send ≡ None) → IsStripped first.host u y
      joined u x y one two none = record {
        number = one.number ∙ sym two.number;
        host = one.host ∙ sym two.host;
        takes = λ a its.
            elim (cases_eq u.entry.host first.host) [
              | inl at ↦ absurd (let e = sym (none at) ∙ its in cc e)
              | inr off ↦ two.other (λ at. off (one.host ∙ at)) ∙ one.takes a its
            ];
        other = λ off. one.other (λ at. off (two.host ∙ at)) ∙ sym (two.other (λ at. off (two.host ∙ at)));
      }

  pub turned_freed : HasTurned initial (freed n log) senders streams first others (n + 1)
  turned_freed = record {
    whole = freed_length n log ∙ turned.whole;
    have = freed_streams n log turned.have;
    among = λ m its. freed_among m n log (turned.among m its);
    so_far = λ out rest. turned.so_far out (turn n is_first rest);
    plain = freed_plain senders streams first f n log within is one turned.plain;
    stripped = stripped_after;
    none = none_after;
  }

-- a line that isn't freed
pub turned_passed : (initial log : List Entry) (senders streams : ℕ → Option ℕ) (first : Entry) (others : List LogLine) (n : ℕ) → HasTurned initial log senders streams first others n
    → ((x : LogLine) → Contains (kept log) x → x.entry.host_name ≡ first.host_name → x.number ≡ n → (s : ℕ) → x.send ≡ Some s → Comes (kept log) n n → ⊥)
    → HasTurned initial log senders streams first others (n + 1)
turned_passed initial log senders streams first others n turned clear = record {
  whole = turned.whole;
  have = turned.have;
  among = turned.among;
  so_far = turned.so_far;
  plain = turned.plain;
  stripped = turned.stripped;
  none = λ j on its.
      elim (sooner_next first n on.line its) [
        | inl sooner ↦ turned.none j on sooner
        | inr at ↦ clear on.line on.among at.0 at.1 on.send on.takes (subst (λ i. Comes (kept log) i i) (sym on.number ∙ at.1) on.cycle)
      ];
}

-- the line with a number, and the send that it takes
taken_from : (left : ℕ → List ℕ) (n : ℕ) (log : List Entry) (x : LogLine) → (h : Contains (matched_from left n log) x) → (x.number ≡ n + h.0) × (x.send ≡ send_for (fold left_after left (take h.0 log)) x.entry) × (get_or log h.0 x.entry ≡ x.entry)
unfolding matched_from
taken_from left n [] x has = absurd (omega (arith, has.1))
taken_from left n (e ∷ log) x (zero, less, is) = (
  sym (ap (λ (l : LogLine). l.number) is) ∙ omega arith,
  sym (ap (λ (l : LogLine). l.send) is) ∙ ap (send_for left) (ap (λ (l : LogLine). l.entry) is),
  ap (λ (l : LogLine). l.entry) is,
)
taken_from left n (e ∷ log) x (suc i, less, is) =
    let w = taken_from (left_after left e) (n + 1) log x (i, omega (arith, less), is) in
    (omega (arith, w.0), w.1, w.2)

pub send_is : (log : List Entry) (n : ℕ) (x : LogLine) → Contains (matched log) x → x.number ≡ n → (x.send ≡ send_for (left_before log n) x.entry) × (get_or log n x.entry ≡ x.entry)
send_is log n x has at =
    let w = taken_from (sends_from 0 log) 0 log x has in
    let same : has.0 ≡ n = omega (arith, w.0, at) in
    (w.1 ∙ ap (λ i. send_for (left_before log i) x.entry) same, ap (λ i. get_or log i x.entry) (sym same) ∙ w.2)

line_from : (left : ℕ → List ℕ) (n i : ℕ) (log : List Entry) (e : Entry) → i < length log → get_or log i e ≡ e
    → Contains (matched_from left n log) (record { number = n + i; entry = e; send = send_for (fold left_after left (take i log)) e })
unfolding matched_from
line_from left n i [] e within is = absurd (omega (arith, within))
line_from left n zero (x ∷ log) e within is =
    (zero, omega arith, ap₂ (λ k (d : Entry). record { number = k; entry = d; send = send_for left d }) (omega arith) is)
line_from left n (suc i) (x ∷ log) e within is =
    let w = line_from (left_after left x) (n + 1) i log e (omega (arith, within)) is in
    let at : n + 1 + i ≡ n + suc i = omega arith in
    later_in _ _ _ (subst (λ k. Contains (matched_from (left_after left x) (n + 1) log) (record { number = k; entry = e; send = send_for (fold left_after left (take (suc i) (x ∷ log))) e })) at w)

pub line_in : (log : List Entry) (n : ℕ) (e : Entry) → n < length log → get_or log n e ≡ e → Contains (matched log) (record { number = n; entry = e; send = send_for (left_before log n) e })
line_in log n e within is = subst (λ k. Contains (matched log) (record { number = k; entry = e; send = send_for (left_before log n) e })) (omega arith) (line_from (sends_from 0 log) 0 n log e within is)

-- remaining sends
left_are_from : (stream : ℕ → ℕ) (left : ℕ → List ℕ) (n : ℕ) (log : List Entry) → AreLeft stream left → AreLeft stream (fold left_after left (take n log))
left_are_from stream left n [] are = subst (λ l. AreLeft stream (fold left_after left l)) (sym (none n)) are
  where
    none : (m : ℕ) → take {A = Entry} m [] ≡ []
    none zero = refl
    none (suc m) = refl
left_are_from stream left zero (e ∷ log) are = are
left_are_from stream left (suc n) (e ∷ log) are = left_are_from stream (left_after left e) n log (left_then stream left e are)

pub left_are : (log : List Entry) (n : ℕ) → AreLeft (stream_at log) (left_before log n)
left_are log n = left_are_from (stream_at log) (sends_from 0 log) n log (all_left log)

left_has_from : (left : ℕ → List ℕ) (n : ℕ) (log : List Entry) (c s : ℕ) → Has (fold left_after left (take n log) c) s → Has (left c) s
left_has_from left zero [] c s has = has
left_has_from left (suc n) [] c s has = has
left_has_from left zero (e ∷ log) c s has = has
left_has_from left (suc n) (e ∷ log) c s has = after_has left e c s (left_has_from (left_after left e) n log c s has)

sends_at : (n : ℕ) (log : List Entry) (c s : ℕ) → Has (sends_from n log c) s → (i : ℕ) × (s ≡ n + i) × (i < length log) × ((e : Entry) × (get_or log i e ≡ e) × (is_send e.kind ≡ true) × (e.stream ≡ c))
unfolding sends_from
sends_at n [] c s has = absurd has
sends_at n (e ∷ log) c s has = go (is_send e.kind) refl (e.stream == c) refl has (sends_at (n + 1) log c s)
  where
    Result : List Entry → ℕ → Type 0
    Result l m = (i : ℕ) × (s ≡ m + i) × (i < length l) × ((d : Entry) × (get_or l i d ≡ d) × (is_send d.kind ≡ true) × (d.stream ≡ c))

    later : Result log (n + 1) → Result (e ∷ log) n
    later w = (suc w.0, omega (arith, w.1), omega (arith, w.2), w.3)

    go : (sends : Bool) → is_send e.kind ≡ sends → (its : Bool) → (e.stream == c) ≡ its → Has (cond (sends && its) (n ∷ sends_from (n + 1) log c) (sends_from (n + 1) log c)) s
        → (Has (sends_from (n + 1) log c) s → Result log (n + 1)) → Result (e ∷ log) n
    go true f true g (inl same) rest = (zero, omega (arith, same), omega arith, (e, refl, f, eqb-true e.stream c g))
    go true f true g (inr there) rest = later (rest there)
    go true f false g there rest = later (rest there)
    go false f its g there rest = later (rest there)

-- a remaining send is a send of its stream
pub left_send : (log : List Entry) (n c s : ℕ) → Has (left_before log n c) s → (s < length log) × ((e : Entry) × (get_or log s e ≡ e) × (is_send e.kind ≡ true) × (e.stream ≡ c))
left_send log n c s has =
    let w = sends_at 0 log c s (left_has_from (sends_from 0 log) n log c s has) in
    let same : w.0 ≡ s = omega (arith, w.1) in
    (omega (arith, w.2, same), (w.3.0, ap (λ i. get_or log i w.3.0) (sym same) ∙ w.3.1, w.3.2, w.3.3))

-- the freed line takes none of them
freed_left_from : (left left' : ℕ → List ℕ) (n : ℕ) (log : List Entry) → ((d : ℕ) → left' d ≡ left d) → n < length log → (d : ℕ)
    → fold left_after left' (take (suc n) (freed n log)) d ≡ fold left_after left (take n log) d
freed_left_from left left' n [] same within d = absurd (omega (arith, within))
freed_left_from left left' zero (e ∷ log) same within d = same d
freed_left_from left left' (suc n) (e ∷ log) same within d =
    freed_left_from (left_after left e) (left_after left' e) n log (λ c. ap (λ l. cond (takes e.kind && e.stream == c) (drop 1 l) l) (same c)) (omega (arith, within)) d

pub left_freed : (log : List Entry) (n : ℕ) (f : Entry) → n < length log → get_or log n f ≡ f → takes f.kind ≡ true → (d : ℕ) → left_before log n d ≡ left_before (freed n log) (n + 1) d
left_freed log n f within is one d =
    sym (ap (λ m. left_before (freed n log) m d) (add-one n) ∙ freed_left_from (sends_from 0 log) (sends_from 0 (freed n log)) n log (freed_sends n 0 log f within is one) within d)
