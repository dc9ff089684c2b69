-- The front of a receive, by its report.
use Rattle.std.proofs.Common.{◌≡◌, ℕ, zero, suc, ◌+◌, ◌-◌, ◌*◌, ◌<◌, ◌≤◌, inl, inr, Bool, true, false, cond, List, [], ◌∷◌, ◌++◌, length, drop, map, get_or, set, All, Some, refl, sym, ap, ◌∙◌, subst, arith}
use Rattle.std.specs.Prelude.{Contains, AllPairs, nat_lt, slice_get}
use Rattle.std.proofs.lemmas.Bool.{cases_lt, cases_eq, cases_Bool, lt-ltb, false≢true}
use Rattle.std.proofs.lemmas.Option.{none-some, same_Some, slice_get-get_or}
use Rattle.std.proofs.lemmas.List.{length-set, get_or-set_same, get_or-set_other}
use Rattle.std.proofs.lemmas.List.Elements.{All-head, All-tail, Contains-get_or}
use Rattle.chart.specs.declared.instance.EventNo.{EventNo}
use Rattle.chart.specs.declared.line.TheConstants.{MAX_EVENTS}
use Rattle.chart.specs.declared.ranges.EventRange.{EventRange}
use Rattle.chart.specs.Events.{is_receive_from, ith}
use Rattle.chart.specs.Charts.{Chart, at, chart_event, LineView, IsReceiveFrom, chart_lines}
use Rattle.chart.specs.Order.{Before}
use Rattle.chart.specs.Order.Before.{direct}
use Rattle.chart.specs.Order.Direct.{same_sender}
use Rattle.chart.specs.Ranges.{IsRange, events_in, events_from}
use Rattle.chart.specs.Reports.{ReportView, IsReportIn, AreReports}
use Rattle.chart.proofs.Belongs.{IsEvent-from_event}
use Rattle.chart.proofs.Reports.{before_in_line}
use Rattle.chart.proofs.Tally.{ith_within}
use Rattle.closure.specs.Closures.{IsPossibleChart}
use Rattle.closure.proofs.ReadLemmas.{instance_within, line_short}
use Rattle.reordering.proofs.CompletionLemmas.Possible.{IsSound, is_sound}
use Rattle.cmd_compare.specs.Fronts.{number_of, front_by, with_front, with_fronts, HasFronts, fronts_from}
use Rattle.cmd_compare.specs.Verdicts.{IsFront, AreFronts}
use Rattle.cmd_compare.proofs.PairLemmas.{has_none, has-map, map-has}
use Rattle.cmd_compare.proofs.ReceiveLemmas.{is_receive, receive_is}

-- the first element of a rising list is the least
first_least : (x : ℕ) (xs : List ℕ) → AllPairs (λ i j. i < j) (x ∷ xs) → (y : ℕ) → Contains (x ∷ xs) y → x ≤ y
first_least x xs rising y (zero, within, is) = omega (arith, is)
first_least x xs rising y (suc k, within, is) = omega (arith, rising 0 (suc k) y (omega arith) within, is)

-- the front from some ranges of races is that of the first range
pub front_of_range : (receive : EventNo) (r : EventRange) (ranges : List EventRange) → IsRange r → front_by receive (events_in (r ∷ ranges)) ≡ r.first.index - 1
front_of_range receive r ranges is = by_count r.count refl
  where
    by_count : (n : ℕ) → r.count ≡ n → front_by receive (events_from r.first.instance r.first.index r.count ++ events_in ranges) ≡ r.first.index - 1
    by_count zero none = absurd (omega (arith, is.some, none))
    by_count (suc n) some = ap (λ k. front_by receive (events_from r.first.instance r.first.index k ++ events_in ranges)) some

-- some ranges, of which the first was read
pub front_of_first : (receive : EventNo) (ranges : List EventRange) (r : EventRange) → 1 ≤ length ranges → r ≡ get_or ranges 0 r → All IsRange ranges → front_by receive (events_in ranges) ≡ r.first.index - 1
front_of_first receive [] r some is all = absurd (omega (arith, some))
front_of_first receive (x ∷ ranges) r some is all = front_of_range receive x ranges (All-head IsRange x ranges all) ∙ ap (λ (y : EventRange). y.first.index - 1) (sym is)

abbrev report_at : ℕ → ℕ → List EventNo → ReportView
report_at p i races = record { receive = record { instance = p; index = i }; earlier = races }

-- the front from a receive's report is the receive's front
front_is : (c : Chart) → IsSound c → (p i q : ℕ) → IsReceiveFrom c q (at p i) → (races : List EventNo) → IsReportIn c (record { receive = record { instance = p; index = i }; earlier = races })
    → IsFront c (at p i) (front_by (record { instance = p; index = i }) races)
front_is c sound p i q received races report = λ e earlier outside.
    let s = sound.knows q (at p i) received in
    let known = s.2 in
    let splits = before_in_line c s.0 p i e.index known.0 s.1 known.1 earlier.begun earlier.less in
    let own : e ≡ at p e.index = ap (λ x. at x e.index) earlier.line in (
      λ comes. elim (splits.0 (subst (λ x. Before c x (at p i)) own comes)) [
        | inl from ↦ inr (s.0.instance, subst (λ x. IsReceiveFrom c s.0.instance x) (sym own) from, s.1.received)
        | inr low ↦ inl (low_enough races report known.0 e.index earlier.less low (λ j begun less le. (before_in_line c s.0 p i j known.0 s.1 known.1 begun less).1 (inr le)))
      ],
      λ either. elim either [
        | inl low ↦ subst (λ x. Before c x (at p i)) (sym own) (elim (cases_lt known.0 e.index) [
          | inr le ↦ splits.1 (inr le)
          | inl above ↦
              let at_m = ap (λ x. chart_event c x) (sym own) ∙ outside.1 in
              elim (cases_Bool (is_receive_from s.0.instance outside.0)) [
                | inl from ↦ splits.1 (inl (outside.0, at_m, from))
                | inr other ↦ absurd (too_low races report e.index earlier.begun low ((report.exact.exact e.index).1 (
                  earlier.less,
                  (outside.0, at_m, outside.2),
                  λ comes. elim (splits.0 comes) [
                    | inl from ↦ false≢true (sym other ∙ subst (λ x. is_receive_from s.0.instance x ≡ true) (same_Some from.0 outside.0 (sym from.1 ∙ at_m)) from.2)
                    | inr le ↦ omega (arith, le, above)
                  ],
                )))
              ]
        ])
        | inr both ↦ direct (same_sender both.0 earlier both.1 both.2)
      ],
    )
  where
    low_enough : (races : List EventNo) → IsReportIn c (report_at p i races) → (k j : ℕ) → j < i → j ≤ k → ((h : ℕ) → 1 ≤ h → h < i → h ≤ k → Before c (at p h) (at p i)) → j ≤ front_by (report_at p i races).receive races
    low_enough [] report k j less low known = omega (arith, less)
    low_enough (x ∷ xs) report k j less low known =
        let its = (report.exact.exact x.index).0 (0, omega arith, refl) in
        let inside = ith_within (c p) x.index its.1.0 its.1.1 in
        elim (cases_lt j x.index) [
          | inl before ↦ omega (arith, before)
          | inr past ↦ absurd (its.2 (known x.index inside.0 its.0 (omega (arith, past, low))))
        ]

    too_low : (races : List EventNo) → IsReportIn c (report_at p i races) → (j : ℕ) → 1 ≤ j → j ≤ front_by (report_at p i races).receive races → Contains (map (λ (race : EventNo). race.index) races) j → ⊥
    too_low [] report j begun low has = has_none j has
    too_low (x ∷ xs) report j begun low has =
        let least = first_least x.index (map (λ (race : EventNo). race.index) xs) report.exact.rising j has in
        omega (arith, least, low, begun)

-- Fronts that are stored.

one_length : (fronts : List ℕ) (receive : EventNo) (front : ℕ) → length (with_front fronts receive front) ≡ length fronts
one_length fronts receive front = by_test (nat_lt (number_of receive) (length fronts))
  where
    by_test : (t : Bool) → length (cond t (set fronts (number_of receive) front) fronts) ≡ length fronts
    by_test true = length-set fronts (number_of receive) front
    by_test false = refl

one_same : (fronts : List ℕ) (receive : EventNo) (front : ℕ) → number_of receive < length fronts → get_or (with_front fronts receive front) (number_of receive) 0 ≡ front
one_same fronts receive front within =
    ap (λ t. get_or (cond t (set fronts (number_of receive) front) fronts) (number_of receive) 0) (lt-ltb (number_of receive) (length fronts) within) ∙ get_or-set_same fronts (number_of receive) front 0 within

one_other : (fronts : List ℕ) (receive : EventNo) (front x : ℕ) → (x ≡ number_of receive → ⊥) → get_or (with_front fronts receive front) x 0 ≡ get_or fronts x 0
one_other fronts receive front x differs = by_test (nat_lt (number_of receive) (length fronts))
  where
    by_test : (t : Bool) → get_or (cond t (set fronts (number_of receive) front) fronts) x 0 ≡ get_or fronts x 0
    by_test true = get_or-set_other fronts (number_of receive) x front 0 differs
    by_test false = refl

abbrev front_of : ReportView → ℕ
front_of report = front_by report.receive report.earlier

pub all_length : (reports : List ReportView) (fronts : List ℕ) → length (with_fronts fronts reports) ≡ length fronts
all_length [] fronts = refl
all_length (r ∷ rs) fronts = all_length rs (with_front fronts r.receive (front_of r)) ∙ one_length fronts r.receive (front_of r)

-- one more report
pub with_fronts-push : (reports : List ReportView) (report : ReportView) (fronts : List ℕ) → with_fronts fronts (reports ++ report ∷ []) ≡ with_front (with_fronts fronts reports) report.receive (front_of report)
with_fronts-push [] report fronts = refl
with_fronts-push (r ∷ rs) report fronts = with_fronts-push rs report (with_front fronts r.receive (front_of r))

-- if Q holds of each report's front, it holds of the stored fronts
module _ (Q : ℕ → ℕ → Type 0) where
  abbrev Its : ReportView → Type 0
  Its report = Q (number_of report.receive) (front_of report)

  stays : (reports : List ReportView) (fronts : List ℕ) → All Its reports → (x : ℕ) → x < length fronts → Q x (get_or fronts x 0) → Q x (get_or (with_fronts fronts reports) x 0)
  stays [] fronts all x within is = is
  stays (r ∷ rs) fronts all x within is =
      let long = one_length fronts r.receive (front_of r) in
      stays rs (with_front fronts r.receive (front_of r)) (All-tail Its r rs all) x (omega (arith, within, long)) (elim (cases_eq x (number_of r.receive)) [
        | inl same ↦
            subst (λ y. Q y (get_or (with_front fronts r.receive (front_of r)) y 0)) (sym same)
            (subst (Q (number_of r.receive)) (sym (one_same fronts r.receive (front_of r) (omega (arith, within, same)))) (All-head Its r rs all))
        | inr differs ↦ subst (Q x) (sym (one_other fronts r.receive (front_of r) x differs)) is
      ])

  put_down : (reports : List ReportView) (fronts : List ℕ) → All Its reports → (report : ReportView) → Contains reports report → number_of report.receive < length fronts → Q (number_of report.receive) (get_or (with_fronts fronts reports) (number_of report.receive) 0)
  put_down [] fronts all report has within = absurd (has_none report has)
  put_down (r ∷ rs) fronts all report (zero, inside, is) within =
      let long = one_length fronts r.receive (front_of r) in
      subst (λ (y : ReportView). Q (number_of y.receive) (get_or (with_fronts fronts (r ∷ rs)) (number_of y.receive) 0)) is
      (let low : number_of r.receive < length fronts = subst (λ (y : ReportView). number_of y.receive < length fronts) (sym is) within in
      stays rs (with_front fronts r.receive (front_of r)) (All-tail Its r rs all) (number_of r.receive) (omega (arith, low, long))
      (subst (Q (number_of r.receive)) (sym (one_same fronts r.receive (front_of r) low)) (All-head Its r rs all)))
  put_down (r ∷ rs) fronts all report (suc k, inside, is) within =
      let long = one_length fronts r.receive (front_of r) in
      put_down rs (with_front fronts r.receive (front_of r)) (All-tail Its r rs all) report (k, omega (arith, inside), is) (omega (arith, within, long))

-- different events of a chart have different numbers
one_event : (a b i j : ℕ) → 1 ≤ i → i ≤ MAX_EVENTS → 1 ≤ j → j ≤ MAX_EVENTS → a * MAX_EVENTS + i ≡ b * MAX_EVENTS + j → (a ≡ b) × (i ≡ j)
one_event a b i j low high begun within same =
    elim (cases_lt a b) [
      | inl less ↦ absurd (omega (arith, less, same, high, begun))
      | inr past ↦ elim (cases_lt b a) [
        | inl more ↦ absurd (omega (arith, more, same, low, within))
        | inr up ↦ (omega (arith, past, up), omega (arith, past, up, same))
      ]
    ]

module _ (lines : List LineView) (chart : IsPossibleChart lines) where
  abbrev c : Chart
  c = chart_lines lines

  sound : IsSound c
  sound = is_sound (length lines) c chart.possible

  -- an event's number is within the list for all lines
  number_within : (q p i : ℕ) → IsReceiveFrom c q (at p i) → (1 ≤ p) × (1 ≤ i) × (i ≤ MAX_EVENTS) × ((p - 1) * MAX_EVENTS + i < length lines * MAX_EVENTS + 1)
  number_within q p i (m, is, from) =
      let event = IsEvent-from_event c (at p i) m is in
      let w = instance_within lines (at p i) event in
      let short = line_short lines w.0 chart.chart w.2 in
      let high : i ≤ length (c (suc w.0)) = subst (λ x. i ≤ length (c x)) w.1 event.1 in
      (omega (arith, w.1), event.0, omega (arith, high, short), omega (arith, w.1, w.2, high, short))

  -- if the number is a receive's, it has the receive's front
  abbrev IsFrontAt : ℕ → ℕ → Type 0
  IsFrontAt x k = (q p i : ℕ) → IsReceiveFrom c q (at p i) → x ≡ (p - 1) * MAX_EVENTS + i → IsFront c (at p i) k

  by_report : (report : ReportView) → IsReportIn c report → (q : ℕ) → IsReceiveFrom c q (at report.receive.instance report.receive.index) → IsFrontAt (number_of report.receive) (front_of report)
  by_report report is q received = λ r p i from same.
      let mine = number_within q report.receive.instance report.receive.index received in
      let its = number_within r p i from in
      let one = one_event (report.receive.instance - 1) (p - 1) report.receive.index i mine.1 mine.2 its.1 its.2 same in
      let line : report.receive.instance ≡ p = omega (arith, one.0, mine.0, its.0) in
      subst (λ x. IsFront c (at x i) (front_of report)) line
      (subst (λ x. IsFront c (at report.receive.instance x) (front_of report)) one.1
      (front_is c sound report.receive.instance report.receive.index q received report.earlier is))

  -- the fronts of all reports are those of all receives
  pub fronts_are : (reports : List ReportView) → AreReports lines reports → (fronts : List ℕ) → length fronts ≡ length lines * MAX_EVENTS + 1 → HasFronts c (with_fronts fronts reports)
  fronts_are reports are fronts long = λ q p i received.
      let within = number_within q p i received in
      let e : EventNo = record { instance = p; index = i } in
      let has = subst (λ (l : List EventNo). Contains l e) (sym are.are.receives) (receive_is lines chart.chart.numbered q p i received) in
      let report = map-has (λ (r : ReportView). r.receive) reports e has in
      let x = (p - 1) * MAX_EVENTS + i in
      let low : x < length fronts = omega (arith, within.3, long) in
      let same : number_of report.0.receive ≡ x = ap number_of report.2 in
      let good = subst (λ y. IsFrontAt y (get_or (with_fronts fronts reports) y 0)) same
      (put_down IsFrontAt reports fronts all report.0 report.1 (subst (λ y. y < length fronts) (sym same) low)) in (
        get_or (with_fronts fronts reports) x 0,
        slice_get-get_or (with_fronts fronts reports) x 0 (omega (arith, low, all_length reports fronts)),
        good q p i received refl,
      )
    where
      all : All (λ (report : ReportView). IsFrontAt (number_of report.receive) (front_of report)) reports
      all k d inside =
          let report = get_or reports k d in
          let has = has-map (λ (r : ReportView). r.receive) reports report (Contains-get_or reports k d inside) in
          let w = is_receive lines chart.chart.numbered report.receive (subst (λ (l : List EventNo). Contains l report.receive) are.are.receives has) in
          by_report report (are.are.each k d inside) w.0 w.1

slice_get_from : (n : ℕ) (xs : List ℕ) (j : ℕ) → slice_get (drop n xs) j ≡ slice_get xs (n + j)
slice_get_from zero xs j = let e : j ≡ 0 + j = omega arith in ap (slice_get xs) e
slice_get_from (suc n) [] j = refl
slice_get_from (suc n) (x ∷ xs) j = let e : suc (n + j) ≡ suc n + j = omega arith in slice_get_from n xs j ∙ ap (slice_get (x ∷ xs)) e

-- the fronts of a line's receives, from its first event on
pub fronts_so : (c : Chart) (fronts : List ℕ) (p : ℕ) (own : List ℕ) → HasFronts c fronts → own ≡ fronts_from fronts p → AreFronts c p own
fronts_so c fronts p own has is = λ q i received. by_index i q received
  where
    by_index : (i q : ℕ) → IsReceiveFrom c q (at p i) → (k : ℕ) × (ith own i ≡ Some k) × IsFront c (at p i) k
    by_index zero q (m, none, from) = absurd (none-some m none)
    by_index (suc j) q received =
        let w = has q p (suc j) received in
        let same : (p - 1) * MAX_EVENTS + suc j ≡ (p - 1) * MAX_EVENTS + 1 + j = omega arith in
        (w.0, ap (λ (l : List ℕ). slice_get l j) is ∙ slice_get_from ((p - 1) * MAX_EVENTS + 1) fronts j ∙ ap (slice_get fronts) (sym same) ∙ w.1, w.2)
