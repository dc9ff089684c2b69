-- A race of a chart consists of a receive and an event of the chart, whether all races are meant or those that are shown.
use Rattle.std.proofs.Common.{◌≡◌, ℕ, zero, suc, ◌+◌, true, List, [], ◌∷◌, Some, map, get_or, refl, sym, ap, ◌∙◌, subst, arith}
use Rattle.std.specs.Prelude.{All, Contains, slice_get}
use Rattle.std.specs.List.{flat_map}
use Rattle.std.proofs.lemmas.Bool.{eq-eqb}
use Rattle.std.proofs.lemmas.List.Elements.{All-nil, All-cons, All-append, All-head, All-tail, All-contains, All-contains_itself, All-weaker}
use Rattle.std.proofs.lemmas.Option.{get_or_from_slice_get}
use Rattle.chart.specs.Charts.{at, LineView, chart_lines, IsReceiveFrom, IsNumbered}
use Rattle.chart.specs.Events.{ith, is_receive_from}
use Rattle.chart.specs.Places.{IsEvent}
use Rattle.chart.specs.Reports.{ReportView, IsReportIn, AreReports, receives_from, receives_of}
use Rattle.chart.specs.declared.event.Event.{Event}
use Rattle.chart.specs.declared.event.Event.TheVariants.{Send, Receive}
use Rattle.chart.specs.declared.instance.EventNo.{EventNo}
use Rattle.chart.proofs.Tally.{ith_within}
use Rattle.closure.specs.Faults.{place_of}
use Rattle.races_text.specs.Judged.Listing.{IsRaceIn}
use Rattle.races_text.specs.Judged.LogVerdicts.{IsReceiveAndEvent}
use Rattle.races_text.proofs.JudgedLemmas.FoundParts.{are_races}
use Rattle.shown_races.specs.declared.showing.Showing.{Showing}
use Rattle.shown_races.specs.Shown.{AreShown}
use Rattle.shown_races.proofs.ShownLemmas.{IsRaceOf, shown_races, shown_receives}

all_unmap : {X Y : Type 0} (f : X → Y) (P : Y → Type 0) (xs : List X) → All P (map f xs) → All (λ x. P (f x)) xs
all_unmap f P [] all = All-nil (λ x. P (f x))
all_unmap f P (x ∷ xs) all = All-cons (λ y. P (f y)) x xs (All-head P (f x) (map f xs) all) (all_unmap f P xs (All-tail P (f x) (map f xs) all))

contains_map : {X Y : Type 0} (f : X → Y) (xs : List X) (x : X) → Contains xs x → Contains (map f xs) (f x)
contains_map f xs x its = All-contains (λ y. Contains (map f xs) (f y)) xs x (all_unmap f (Contains (map f xs)) xs (All-contains_itself (map f xs))) its

-- the event is a receive of p's line; `line` has the events of this line from the i-th on
abbrev IsReceiveOf : ℕ → ℕ → List Event → EventNo → Type 0
IsReceiveOf p i line r = (r.instance ≡ p) × ((n : ℕ) × (m : Event) × (q : ℕ) × (r.index ≡ i + n) × (slice_get line n ≡ Some m) × (is_receive_from q m ≡ true))

later : (p i : ℕ) (m : Event) (line : List Event) (r : EventNo) → IsReceiveOf p (i + 1) line r → IsReceiveOf p i (m ∷ line) r
later p i m line r (own, (n, x, q, number, is, receives)) = (own, (suc n, x, q, omega (arith, number), is, receives))

receives_are : (p i : ℕ) (line : List Event) → All (IsReceiveOf p i line) (receives_from p i line)
receives_are p i [] = All-nil (IsReceiveOf p i [])
receives_are p i (Send to name ∷ line) =
    All-weaker (IsReceiveOf p (i + 1) line) (IsReceiveOf p i (Send to name ∷ line)) (later p i (Send to name) line) (receives_from p (i + 1) line) (receives_are p (i + 1) line)
receives_are p i (Receive from name region ∷ line) =
    let m : Event = Receive from name region in
    All-cons (IsReceiveOf p i (m ∷ line)) (record { instance = p; index = i }) (receives_from p (i + 1) line)
    (refl, (zero, m, from, omega arith, refl, eq-eqb from from refl))
    (All-weaker (IsReceiveOf p (i + 1) line) (IsReceiveOf p i (m ∷ line)) (later p i m line) (receives_from p (i + 1) line) (receives_are p (i + 1) line))

module _ (lines : List LineView) (numbered : IsNumbered lines) where
  abbrev IsReceiveHere : EventNo → Type 0
  IsReceiveHere r = (q : ℕ) × IsReceiveFrom (chart_lines lines) q (place_of r)

  of_line : (k : ℕ) (l : LineView) → slice_get lines k ≡ Some l → (r : EventNo) → IsReceiveOf l.instance 1 l.events r → IsReceiveHere r
  of_line k l is r (own, (n, m, q, number, event, receives)) =
      let place : r.instance ≡ suc k = own ∙ numbered k l is in
      let index : r.index ≡ suc n = omega (arith, number) in
      let events : l.events ≡ chart_lines lines (suc k) = ap (λ (x : LineView). x.events) (sym (get_or_from_slice_get lines k l (record { instance = suc k; events = [] }) is)) in
      (q, (m, subst (λ (i : ℕ). ith (chart_lines lines i) r.index ≡ Some m) (sym place) (subst (λ (j : ℕ). ith (chart_lines lines (suc k)) j ≡ Some m) (sym index) (subst (λ (es : List Event). slice_get es n ≡ Some m) events event)), receives))

  all_receives : (k : ℕ) (some : List LineView) → ((j : ℕ) (l : LineView) → slice_get some j ≡ Some l → slice_get lines (k + j) ≡ Some l) → All IsReceiveHere (flat_map receives_of some)
  all_receives k [] within = All-nil IsReceiveHere
  all_receives k (l ∷ some) within =
      let here : slice_get lines k ≡ Some l = let same : k + zero ≡ k = omega arith in subst (λ i. slice_get lines i ≡ Some l) same (within zero l refl) in
      All-append IsReceiveHere (receives_of l) (flat_map receives_of some)
      (All-weaker (IsReceiveOf l.instance 1 l.events) IsReceiveHere (of_line k l here) (receives_of l) (receives_are l.instance 1 l.events))
      (all_receives (k + 1) some (λ j x is. let same : k + suc j ≡ k + 1 + j = omega arith in subst (λ i. slice_get lines i ≡ Some x) same (within (suc j) x is)))

  of_chart : All IsReceiveHere (flat_map receives_of lines)
  of_chart = all_receives 0 lines (λ j l is. let same : j ≡ 0 + j = omega arith in subst (λ i. slice_get lines i ≡ Some l) same is)

  receive_is : (reports : List ReportView) → AreReports lines reports → (report : ReportView) → Contains reports report → IsReceiveHere report.receive
  receive_is reports are report its =
      let receives = subst (All IsReceiveHere) (sym are.are.receives) of_chart in
      All-contains (λ (r : ReportView). IsReceiveHere r.receive) reports report (all_unmap (λ (r : ReportView). r.receive) IsReceiveHere reports receives) its

  -- a race consists of a receive and an event of the chart
  pub race_is : (r e : EventNo) → IsRaceIn lines r e → IsReceiveHere r × IsEvent (chart_lines lines) (place_of e)
  race_is r e race =
      let report = race.report in
      let is = All-contains (IsReportIn (chart_lines lines)) race.reports report race.are.are.each race.its in
      let receive = receive_is race.reports race.are report race.its in
      let own : e.instance ≡ report.receive.instance = All-contains (λ (x : EventNo). x.instance ≡ report.receive.instance) report.earlier e is.line race.among in
      let here = (is.exact.exact e.index).0 (contains_map (λ (x : EventNo). x.index) report.earlier e race.among) in
      let within = ith_within (chart_lines lines report.receive.instance) e.index here.1.0 here.1.1 in
      (subst IsReceiveHere race.receive receive, subst (λ (p : ℕ). IsEvent (chart_lines lines) (at p e.index)) (sym own) within)

  -- each race of the chart's reports is of its receive and an event
  pub all_races : (reports : List ReportView) → AreReports lines reports → All (λ (report : ReportView). All (IsReceiveAndEvent lines report.receive) report.earlier) reports
  all_races reports are =
      All-weaker (Contains reports) (λ (report : ReportView). All (IsReceiveAndEvent lines report.receive) report.earlier)
      (λ report its. are_races (IsReceiveAndEvent lines) lines race_is reports are report its) reports (All-contains_itself reports)

  event_is : (r e : EventNo) → IsRaceOf (chart_lines lines) r e → IsEvent (chart_lines lines) (place_of e)
  event_is r e race =
      let within = ith_within (chart_lines lines r.instance) e.index race.apart.0 race.apart.1 in
      subst (λ (p : ℕ). IsEvent (chart_lines lines) (at p e.index)) (sym race.line) within

  -- the same of the reports with only the races that are shown
  pub all_shown : (showing : Showing) (shown : List ReportView) → AreShown showing lines shown → All (λ (report : ReportView). All (IsReceiveAndEvent lines report.receive) report.earlier) shown
  all_shown showing shown are i d within =
      let report = get_or shown i d in
      let receives = subst (All IsReceiveHere) (sym (shown_receives showing lines shown are)) of_chart in
      let receive = all_unmap (λ (r : ReportView). r.receive) IsReceiveHere shown receives i d within in
      let races = shown_races showing lines shown are i d within in
      λ k e within_k. (receive, event_is report.receive (get_or report.earlier k e) (races k e within_k))
