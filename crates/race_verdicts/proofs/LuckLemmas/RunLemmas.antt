-- Neighbouring events of one kind, and their verdict.
use Rattle.std.proofs.Common.{◌≡◌, ◌≢◌, ℕ, zero, suc, ◌+◌, ◌-◌, ◌<◌, ◌≤◌, ◌↔◌, ◌⊎◌, inl, inr, Bool, true, false, List, [], ◌∷◌, ◌++◌, Option, None, Some, length, get_or, set, refl, sym, ap, ◌∙◌, subst, arith}
use Rattle.std.specs.Prelude.{All, IsTrue, min, slice_get}
use Rattle.std.proofs.lemmas.Bool.{cases_eq, cases_lt, false≢true}
use Rattle.std.proofs.lemmas.List.{get_or-set_same, get_or-set_other, get_or_past, get_or_default, get_or_push, get_or_append_left}
use Rattle.std.proofs.lemmas.List.Elements.{All-nil, All-cons, All-head, All-tail, All-weaker}
use Rattle.std.proofs.lemmas.Option.{slice_get_within}
use Rattle.chart.specs.declared.instance.EventNo.{EventNo}
use Rattle.chart.specs.declared.ranges.EventRange.{EventRange}
use Rattle.chart.specs.Charts.{Place, at, LineView, chart_lines, IsReceiveFrom}
use Rattle.chart.specs.Events.{ith}
use Rattle.chart.specs.Order.{Before}
use Rattle.chart.specs.Places.{IsEvent}
use Rattle.chart.specs.Ranges.{events_from, events_of}
use Rattle.chart.proofs.Tally.{ith_at, ith_within}
use Rattle.closure.specs.Faults.{place_of}
use Rattle.log_chart.specs.declared.item.Item.{Item}
use Rattle.log_chart.specs.declared.item.MessageNo.TheVariants as messages
use Rattle.race_verdicts.specs.Luck.Places.{host_items, items_of, item_at, IsInvented}
use Rattle.race_verdicts.specs.Luck.Recorded.{IsRecording}
use Rattle.race_verdicts.specs.Luck.Runs.{kind_in, kind_of, IsOneKind, AreAlike, IsNextAlike, IsRun, HaveRuns, AreRuns}
use Rattle.race_verdicts.specs.Luck.Verdicts.{IsBegun, IsBegunBefore, IsVerdict}
use Rattle.race_verdicts.specs.Luck.Verdicts.IsBegun.{itself, before}
use Rattle.race_verdicts.specs.Luck.Verdicts.IsBegunBefore.{unlogged, itself as begun_itself, before as begun_before}
use Rattle.race_verdicts.specs.declared.luck.runs.Kind.{Kind}
use Rattle.race_verdicts.specs.declared.luck.runs.Kind.TheVariants.{Invented, Send, Receive}
use Rattle.race_verdicts.specs.declared.verdict.Verdict.{Verdict}
use Rattle.race_verdicts.specs.declared.verdict.Verdict.TheVariants.{EarlierIsSend, BegunInTheMiddle}
use Rattle.race_verdicts.proofs.LuckLemmas.JudgeLemmas.{verdict_begun, verdict_send, one_verdict}
use Rattle.race_verdicts.proofs.LuckLemmas.TableLemmas.{some_same}
use Rattle.race_verdicts.specs.Recordings.{RecordingView}

-- Tables.

-- whether the next event is of the same kind, by both events
pub alike_read : (items : List Item) (k : ℕ) (x y : Item) → slice_get items k ≡ Some x → slice_get items (k + 1) ≡ Some y → (b : Bool) → (IsTrue b ↔ (kind_of y ≡ kind_of x)) → IsTrue b ↔ IsNextAlike items k
alike_read items k x y is next_is b both = (
  λ yes. record { item = x; is = is; next = y; next_is = next_is; same = both.0 yes },
  λ its.
      let one : its.item ≡ x = some_same (sym its.is ∙ is) in
      let other : its.next ≡ y = some_same (sym its.next_is ∙ next_is) in
      both.1 (ap kind_of (sym other) ∙ its.same ∙ ap kind_of one),
)

-- the last event of a line has no next one
pub alike_none : (items : List Item) (k : ℕ) → k + 1 ≡ length items → IsTrue false ↔ IsNextAlike items k
alike_none items k last = (λ yes. absurd (false≢true yes), λ its. let within = slice_get_within items (k + 1) its.next its.next_is in absurd (omega (arith, within, last)))

pub run_alone : (items : List Item) (k : ℕ) → k < length items → (IsNextAlike items k → ⊥) → IsRun items k 1
run_alone items k less none = record {
  some = omega arith;
  within = omega (arith, less);
  alike = λ j x y low is y_is.
      let here : k + j ≡ k = omega (arith, low) in
      ap kind_of (some_same (sym (subst (λ i. slice_get items i ≡ Some y) here y_is) ∙ is));
  longest = λ x y is y_is same. none (record { item = x; is = is; next = y; next_is = y_is; same = same });
}

pub run_longer : (items : List Item) (k n : ℕ) → IsNextAlike items k → IsRun items (k + 1) n → IsRun items k (n + 1)
run_longer items k n next run = record {
  some = omega arith;
  within = let within = run.within in omega (arith, within);
  alike = alike;
  longest = λ x y is y_is same.
      let one : x ≡ next.item = some_same (sym is ∙ next.is) in
      let past : k + (n + 1) ≡ k + 1 + n = omega arith in
      run.longest next.next y next.next_is (subst (λ i. slice_get items i ≡ Some y) past y_is) (same ∙ ap kind_of one ∙ sym next.same);
}
  where
    alike : (j : ℕ) (x y : Item) → j < n + 1 → slice_get items k ≡ Some x → slice_get items (k + j) ≡ Some y → kind_of y ≡ kind_of x
    alike zero x y low is y_is =
        let here : k + zero ≡ k = omega arith in
        ap kind_of (some_same (sym (subst (λ i. slice_get items i ≡ Some y) here y_is) ∙ is))
    alike (suc j) x y low is y_is =
        let one : next.item ≡ x = some_same (sym next.is ∙ is) in
        let there : k + suc j ≡ k + 1 + j = omega arith in
        run.alike j next.next y (omega (arith, low)) next.next_is (subst (λ i. slice_get items i ≡ Some y) there y_is) ∙ next.same ∙ ap kind_of one

-- the number of an event is in the table
pub run_read : (items : List Item) (runs : List (Option ℕ)) (k n : ℕ) → HaveRuns items runs k → k < length items → get_or runs k None ≡ Some n → IsRun items k n
run_read items runs k n have less is = let w = have k (omega arith) less in subst (IsRun items k) (some_same (sym w.1 ∙ is)) w.2

pub run_there : (items : List Item) (runs : List (Option ℕ)) (k : ℕ) → HaveRuns items runs k → k < length items → get_or runs k None ≡ None → ⊥
run_there items runs k have less none = let w = have k (omega arith) less in absurd (cc (w.1, none))

pub runs_none : (items : List Item) (runs : List (Option ℕ)) (n : ℕ) → n ≡ length items → HaveRuns items runs n
runs_none items runs n all = λ k low less. absurd (omega (arith, low, less, all))

pub runs_more : (items : List Item) (old new : List (Option ℕ)) (n run : ℕ) → n < length old → new ≡ set old n (Some run) → HaveRuns items old (n + 1) → IsRun items n run → HaveRuns items new n
runs_more items old new n run within is have its = λ k low less.
    elim (cases_eq k n) [
      | inl same ↦ subst (λ i. (m : ℕ) × (get_or new i None ≡ Some m) × IsRun items i m) (sym same) (run, ap (λ t. get_or t n None) is ∙ get_or-set_same old n (Some run) None within, its)
      | inr other ↦
          let w = have k (omega (arith, low, other)) less in
          (w.0, ap (λ t. get_or t k None) is ∙ get_or-set_other old n k (Some run) None other ∙ w.1, w.2)
    ]

-- the table of one more host
pub hosts_more : (hosts : List (List Item)) (place : ℕ) (tables : List (List (Option ℕ))) (more : List (Option ℕ)) → length tables ≡ place
    → ((p : ℕ) → p < place → HaveRuns (get_or hosts p []) (get_or tables p []) 0) → HaveRuns (get_or hosts place []) more 0 → (p : ℕ) → p < place + 1 → HaveRuns (get_or hosts p []) (get_or (tables ++ more ∷ []) p []) 0
hosts_more hosts place tables more whole each new p within =
    elim (cases_eq p place) [
      | inl same ↦
          subst (λ k. HaveRuns (get_or hosts k []) (get_or (tables ++ more ∷ []) k []) 0) (sym same)
          (subst (λ (t : List (Option ℕ)). HaveRuns (get_or hosts place []) t 0) (sym (get_or_push tables more [] place whole)) new)
      | inr other ↦
          subst (λ (t : List (Option ℕ)). HaveRuns (get_or hosts p []) t 0) (sym (get_or_append_left {A = List (Option ℕ)} tables (more ∷ []) [] p (omega (arith, whole, within, other)))) (each p (omega arith))
    ]

-- the host of an event is one of them
pub host_there : (hosts : List (List Item)) (q p i : ℕ) → q ≡ suc p → 1 ≤ i → i ≤ length (host_items hosts q) → p < length hosts
host_there hosts q p i is low high =
    elim (cases_lt p (length hosts)) [
      | inl less ↦ less
      | inr past ↦
          let there : i ≤ length (get_or hosts p []) = subst (λ k. i ≤ length (host_items hosts k)) is high in
          absurd (let empty = ap length (get_or_past hosts p [] past) in omega (arith, empty, there))
    ]

-- the table of an event's host
pub runs_there : (hosts : List (List Item)) (tables : List (List (Option ℕ))) → AreRuns hosts tables → (q p i : ℕ) → q ≡ suc p → 1 ≤ i → i ≤ length (host_items hosts q) → (table : List (Option ℕ))
    → table ≡ get_or tables p table → HaveRuns (host_items hosts q) table (i - 1)
runs_there hosts tables are q p i is low high table read =
    let less = host_there hosts q p i is low high in
    let whole = are.whole in
    let same : get_or tables p [] ≡ table = sym (read ∙ get_or_default tables p table [] (omega (arith, less, whole))) in
    let all = subst (λ (t : List (Option ℕ)). HaveRuns (get_or hosts p []) t 0) same (are.each p less) in
    subst (λ k. HaveRuns (host_items hosts k) table (i - 1)) (sym is) (λ k from within. all k (omega arith) within)

-- Kinds.

invented_line : (line : Option ℕ) (sends : Bool) → kind_in line sends ≡ Invented → line ≡ None
invented_line None sends is = refl
invented_line (Some n) true is = absurd (cc is)
invented_line (Some n) false is = absurd (cc is)

send_line : (line : Option ℕ) (sends : Bool) → kind_in line sends ≡ Send → (n : ℕ) × (line ≡ Some n) × (sends ≡ true)
send_line None sends is = absurd (cc is)
send_line (Some n) true is = (n, refl, refl)
send_line (Some n) false is = absurd (cc is)

-- for a receive of the log the number is 1
pub alike_alone : (items : List Item) (i n : ℕ) (x : Item) → 0 < n → ith items i ≡ Some x → kind_of x ≡ Receive → AreAlike items i n 1
alike_alone items i n x some is receive = record {
  some = omega arith;
  within = omega (arith, some);
  alike = λ j y z low y_is z_is.
      let here : i + j ≡ i = omega (arith, low) in
      inl (some_same (sym (subst (λ k. ith items k ≡ Some z) here z_is) ∙ y_is));
  longest = λ y z less y_is z_is one. one.1 (ap kind_of (some_same (sym y_is ∙ is)) ∙ receive);
}

-- for other events it is the table's, or all of them if they are fewer
pub alike_run : (items : List Item) (i n run : ℕ) (x : Item) → 1 ≤ i → 0 < n → ith items i ≡ Some x → (kind_of x ≡ Receive → ⊥) → IsRun items (i - 1) run → (count : ℕ) → count ≡ min run n → AreAlike items i n count
alike_run items zero n run x low some is other its count smaller = absurd (omega (arith, low))
alike_run items (suc k) n run x low some is other its count smaller =
    let back : suc k - 1 ≡ k = omega arith in
    let here : IsRun items k run = subst (λ m. IsRun items m run) back its in
    let positive = here.some in
    record {
      some = omega (arith, smaller, positive, some);
      within = omega (arith, smaller);
      alike = λ j y z less y_is z_is.
          let there : suc k + j ≡ suc (k + j) = omega arith in
          let same : y ≡ x = some_same (sym y_is ∙ is) in
          inr (here.alike j y z (omega (arith, less, smaller)) y_is (subst (λ m. ith items m ≡ Some z) there z_is), λ receive. other (ap kind_of (sym same) ∙ receive));
      longest = λ y z less y_is z_is one.
          let all : count ≡ run = omega (arith, less, smaller) in
          let there : suc k + count ≡ suc (k + run) = omega (arith, all) in
          here.longest y z y_is (subst (λ m. ith items m ≡ Some z) there z_is) one.0;
    }

-- Verdicts.

-- a receive of a sent message is begun in the middle if an invented send comes before it
pub begun_sent : (lines : List LineView) (rec : RecordingView) (r : Place) (receive : Item) (s : ℕ) → item_at rec r ≡ Some receive → receive.message ≡ messages.Sent s → (b : Bool)
    → (IsTrue b ↔ ((e : Place) × IsInvented rec e × Before (chart_lines lines) e r)) → IsTrue b ↔ IsBegun lines rec r
begun_sent lines rec r receive s is send b both = (λ yes. let w = both.0 yes in before w.0 w.1 w.2, go)
  where
    go : IsBegun lines rec r → IsTrue b
    go (itself x n x_is message) =
        let same : x ≡ receive = some_same (sym x_is ∙ is) in
        absurd (let one : messages.Begun n ≡ messages.Sent s = sym message ∙ ap (λ (i : Item). i.message) same ∙ send in cc one)
    go (before e invented comes) = both.1 (e, invented, comes)

-- an event of the chart is one of the recording
pub item_there : (lines : List LineView) (rec : RecordingView) → IsRecording lines rec → (e : Place) → IsEvent (chart_lines lines) e → (x : Item) × (item_at rec e ≡ Some x)
item_there lines rec keeps e here = let whole = keeps.events e.instance in ith_at (items_of rec e.instance) e.index here.0 (omega (arith, here.1, whole))

-- a receive is an event
pub receive_there : (lines : List LineView) (q : ℕ) (r : Place) → IsReceiveFrom (chart_lines lines) q r → IsEvent (chart_lines lines) r
receive_there lines q r its = ith_within (chart_lines lines r.instance) r.index its.0 its.1

module _ (lines : List LineView) (rec : RecordingView) (keeps : IsRecording lines rec) (r : Place) where
  -- a receive that is begun in the middle is so for each earlier event
  begun_of_any : (receive earlier : Item) → item_at rec r ≡ Some receive → IsBegun lines rec r → IsBegunBefore lines rec r receive earlier
  begun_of_any receive earlier is (itself x n x_is message) =
      let same : receive ≡ x = some_same (sym is ∙ x_is) in
      begun_itself n (ap (λ (i : Item). i.message) same ∙ message)
  begun_of_any receive earlier is (before e invented comes) = begun_before e invented comes

  begun_verdict : IsEvent (chart_lines lines) r → IsBegun lines rec r → (e : EventNo) → IsEvent (chart_lines lines) (place_of e) → IsVerdict lines rec r (at e.instance e.index) BegunInTheMiddle
  begun_verdict receive begun e here =
      let x = item_there lines rec keeps r receive in
      let y = item_there lines rec keeps (place_of e) here in
      verdict_begun lines rec r (place_of e) x.0 y.0 x.1 y.1 (begun_of_any x.0 y.0 x.1 begun)

  -- so all earlier events have one verdict
  pub begun_verdicts : IsEvent (chart_lines lines) r → IsBegun lines rec r → (events : List EventNo) → All (λ (e : EventNo). IsEvent (chart_lines lines) (place_of e)) events
      → All (λ (e : EventNo). IsVerdict lines rec r (at e.instance e.index) BegunInTheMiddle) events
  begun_verdicts receive begun events all =
      All-weaker (λ (e : EventNo). IsEvent (chart_lines lines) (place_of e)) (λ (e : EventNo). IsVerdict lines rec r (at e.instance e.index) BegunInTheMiddle) (begun_verdict receive begun) events all

  module _ (not_begun : IsBegun lines rec r → ⊥) where
    -- events of one kind have one verdict too
    not_begun_before : (receive earlier : Item) (n : ℕ) → item_at rec r ≡ Some receive → earlier.line ≡ Some n → IsBegunBefore lines rec r receive earlier → ⊥
    not_begun_before receive earlier n is line (unlogged none) = absurd (cc (none, line))
    not_begun_before receive earlier n is line (begun_itself m message) = not_begun (itself receive m is message)
    not_begun_before receive earlier n is line (begun_before e invented comes) = not_begun (before e invented comes)

    of_kind : (e f : Place) (x y : Item) (v : Verdict) → item_at rec e ≡ Some x → item_at rec f ≡ Some y → IsVerdict lines rec r e v → (k : Kind) → kind_of x ≡ k → kind_of y ≡ k → k ≢ Receive → IsVerdict lines rec r f v
    of_kind e f x y v x_is y_is its Invented of_x of_y other =
        let first = verdict_begun lines rec r e its.receive x its.receive_is x_is (unlogged (invented_line x.line x.sends of_x)) in
        subst (IsVerdict lines rec r f) (one_verdict lines rec r e BegunInTheMiddle v first its)
        (verdict_begun lines rec r f its.receive y its.receive_is y_is (unlogged (invented_line y.line y.sends of_y)))
    of_kind e f x y v x_is y_is its Send of_x of_y other =
        let a = send_line x.line x.sends of_x in
        let b = send_line y.line y.sends of_y in
        let first = verdict_send lines rec r e its.receive x its.receive_is x_is (not_begun_before its.receive x a.0 its.receive_is a.1) a.2 in
        subst (IsVerdict lines rec r f) (one_verdict lines rec r e EarlierIsSend v first its)
        (verdict_send lines rec r f its.receive y its.receive_is y_is (not_begun_before its.receive y b.0 its.receive_is b.1) b.2)
    of_kind e f x y v x_is y_is its Receive of_x of_y other = absurd (other refl)

    of_alike : (e f : Place) (x y : Item) (v : Verdict) → item_at rec e ≡ Some x → item_at rec f ≡ Some y → IsVerdict lines rec r e v → (y ≡ x) ⊎ IsOneKind x y → IsVerdict lines rec r f v
    of_alike e f x y v x_is y_is its (inl same) =
        let one : x ≡ its.earlier = some_same (sym x_is ∙ its.earlier_is) in
        record {
          receive = its.receive;
          earlier = its.earlier;
          receive_is = its.receive_is;
          earlier_is = y_is ∙ ap Some (same ∙ one);
          reason = its.reason;
          first = its.first;
        }
    of_alike e f x y v x_is y_is its (inr kind) = of_kind e f x y v x_is y_is its (kind_of x) refl kind.0 kind.1

    all_alike : (p i n most : ℕ) (v : Verdict) → AreAlike (items_of rec p) i most n → IsVerdict lines rec r (at p i) v → (x : Item) → ith (items_of rec p) i ≡ Some x
        → ((j : ℕ) → j < n → (y : Item) × (ith (items_of rec p) (i + j) ≡ Some y)) → (j : ℕ) → j < n → IsVerdict lines rec r (at p (i + j)) v
    all_alike p i n most v alike its x is each j less =
        let y = each j less in
        of_alike (at p i) (at p (i + j)) x y.0 v is y.1 its (alike.alike j x y.0 less is y.1)

-- events of a line of which each has a fact
pub all_from : (P : EventNo → Type 0) (p i n : ℕ) → ((j : ℕ) → j < n → P (record { instance = p; index = i + j })) → All P (events_from p i n)
all_from P p i zero each = All-nil P
all_from P p i (suc n) each =
    let here : i + 0 ≡ i = omega arith in
    All-cons P (record { instance = p; index = i }) (events_from p (i + 1) n) (subst (λ k. P (record { instance = p; index = k })) here (each 0 (omega arith)))
    (all_from P p (i + 1) n (λ j less. let next : i + suc j ≡ i + 1 + j = omega arith in subst (λ k. P (record { instance = p; index = k })) next (each (suc j) (omega (arith, less)))))

-- and each of them has the fact
pub each_from : (P : EventNo → Type 0) (p i n : ℕ) → All P (events_from p i n) → (j : ℕ) → j < n → P (record { instance = p; index = i + j })
each_from P p i zero all j less = absurd (omega (arith, less))
each_from P p i (suc n) all zero less =
    let here : i ≡ i + 0 = omega arith in
    subst (λ k. P (record { instance = p; index = k })) here (All-head P (record { instance = p; index = i }) (events_from p (i + 1) n) all)
each_from P p i (suc n) all (suc j) less =
    let next : i + 1 + j ≡ i + suc j = omega arith in
    subst (λ k. P (record { instance = p; index = k })) next (each_from P p (i + 1) n (All-tail P (record { instance = p; index = i }) (events_from p (i + 1) n) all) j (omega (arith, less)))

pub first_event : (lines : List LineView) (earlier : EventRange) → 0 < earlier.count → All (λ (e : EventNo). IsEvent (chart_lines lines) (place_of e)) (events_of earlier) → IsEvent (chart_lines lines) (place_of earlier.first)
first_event lines earlier some all =
    let p = earlier.first.instance in
    let i = earlier.first.index in
    let here : i + 0 ≡ i = omega arith in
    let first = each_from (λ (e : EventNo). IsEvent (chart_lines lines) (place_of e)) p i earlier.count all 0 some in
    subst (λ k. IsEvent (chart_lines lines) (at p k)) here first

pub alike_verdicts : (lines : List LineView) (rec : RecordingView) (keeps : IsRecording lines rec) (r : Place) → (IsBegun lines rec r → ⊥) → (earlier : EventRange) (n : ℕ) (v : Verdict)
    → AreAlike (items_of rec earlier.first.instance) earlier.first.index earlier.count n → IsVerdict lines rec r (at earlier.first.instance earlier.first.index) v
    → All (λ (e : EventNo). IsEvent (chart_lines lines) (place_of e)) (events_of earlier) → All (λ (e : EventNo). IsVerdict lines rec r (at e.instance e.index) v) (events_of (record { first = earlier.first; count = n }))
alike_verdicts lines rec keeps r not_begun earlier n v alike its all =
    let p = earlier.first.instance in
    let i = earlier.first.index in
    let within = alike.within in
    let some = alike.some in
    let x = item_there lines rec keeps (at p i) (first_event lines earlier (omega (arith, some, within)) all) in
    all_from (λ (e : EventNo). IsVerdict lines rec r (at e.instance e.index) v) p i n
    (all_alike lines rec keeps r not_begun p i n earlier.count v alike its x.0 x.1
    (λ j less. item_there lines rec keeps (at p (i + j)) (each_from (λ (e : EventNo). IsEvent (chart_lines lines) (place_of e)) p i earlier.count all j (omega (arith, less, within)))))
