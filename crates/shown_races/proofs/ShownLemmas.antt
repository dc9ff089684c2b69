-- The reports of the races that are shown: how they are found one by one, that a chart has one list of them, and that
-- each of their events is a race.
use Rattle.std.proofs.Common.{◌≡◌, ℕ, ◌+◌, ◌<◌, ◌≤◌, Bool, true, false, List, [], ◌∷◌, ◌++◌, length, map, take, get_or, All, AllPairs, Contains, Bor, Option, None, Some, refl, sym, ap, ap₂, ◌∙◌, subst, arith}
use Rattle.std.specs.Prelude.{filter, IfSome, MatchOption}
use Rattle.std.specs.List.{flat_map}
use Rattle.std.proofs.lemmas.List.{length-map, map-append, get_or-map, take_more, take_all}
use Rattle.std.proofs.lemmas.List.Elements.{All-head, All-tail, All-filter, All-map, All-weaker}
use Rattle.chart.specs.declared.event.Event.{Event}
use Rattle.chart.specs.declared.instance.EventNo.{EventNo}
use Rattle.chart.specs.Events.{is_in}
use Rattle.chart.specs.Charts.{Chart, Place, at, chart_event, LineView, IsPossible, chart_lines}
use Rattle.chart.specs.Order.{Before, region_of_event}
use Rattle.chart.specs.Reports.{ReportView, AreReports, receives_of}
use Rattle.chart.proofs.Rising.{same_rising}
use Rattle.closure.proofs.OneList.{one_list}
use Rattle.reordering.specs.Completion.Orders.{Completed, IsFinishedUpTo, IsCompletedReport, IsCompletedReportIn}
use Rattle.reordering.specs.declared.completion.completion.Completion.{Completion}
use Rattle.reordering.proofs.CompletionLemmas.OrderLemmas.{part}
use Rattle.shown_races.specs.Kept.{is_kept, is_kept_after, kept_events}
use Rattle.shown_races.specs.Selected.{is_there, AreSelected, IsPassed, without_first, AreSelectedOf}
use Rattle.shown_races.specs.Shown.{kept_report, AreShown}
use Rattle.shown_races.specs.declared.showing.Showing.{Showing}
use Rattle.shown_races.proofs.SelectedLemmas.{kept_events_later, selected_push, selected_are}

-- If all races are shown:

all_kept : (events : List Event) (xs : List EventNo) → kept_events events false xs ≡ xs
all_kept events [] = refl
all_kept events (x ∷ xs) = ap (λ l. x ∷ l) (all_kept events xs)

reports_whole : (lines : List LineView) (reports : List ReportView) → map (kept_report false lines) reports ≡ reports
reports_whole lines [] = refl
reports_whole lines (r ∷ rs) =
    ap₂ (λ (x : ReportView) xs. x ∷ xs) (ap (λ (es : List EventNo). record { receive = r.receive; earlier = es }) (all_kept (chart_lines lines r.receive.instance) r.earlier)) (reports_whole lines rs)

pub shown_whole : (lines : List LineView) (reports : List ReportView) → AreReports lines reports → AreShown (record { receives = false; run_to_completion = false }) lines reports
shown_whole lines reports are = (reports, are, sym (reports_whole lines reports))

-- One report after another:

-- the reports with the races of the first ones that are shown
abbrev pub HaveShown : Bool → Bool → List LineView → List ReportView → List ReportView → Type 0
HaveShown only completed lines reports shown = (selected : List ReportView) × AreSelectedOf completed (chart_lines lines) reports selected
    × (shown ≡ map (kept_report only lines) selected)

pub shown_next : (only completed : Bool) (lines : List LineView) (reports : List ReportView) (i : ℕ) (report kept : ReportView) (passed : ℕ) (shown : List ReportView)
    → i < length reports → report ≡ get_or reports i report → IsPassed completed (chart_lines lines) (at report.receive.instance report.receive.index) passed
    → kept ≡ record { receive = report.receive; earlier = filter (is_kept_after (chart_lines lines report.receive.instance) only passed) report.earlier }
    → HaveShown only completed lines (take i reports) shown → HaveShown only completed lines (take (i + 1) reports) (shown ++ kept ∷ [])
shown_next only completed lines reports i report kept passed shown within read is_passed is (selected, are, so) =
    let c = chart_lines lines in
    let next = without_first passed report in
    let longer : take (i + 1) reports ≡ take i reports ++ report ∷ [] = take_more reports i report within ∙ ap (λ (r : ReportView). take i reports ++ r ∷ []) (sym read) in
    let same : kept ≡ kept_report only lines next = is ∙ ap (λ (es : List EventNo). record { receive = report.receive; earlier = es }) (kept_events_later (c report.receive.instance) only passed report.earlier) in (
      selected ++ next ∷ [],
      subst (λ (rs : List ReportView). AreSelectedOf completed c rs (selected ++ next ∷ [])) (sym longer) (selected_push c report next are (passed, is_passed, refl)),
      ap₂ (λ (xs : List ReportView) (x : ReportView). xs ++ x ∷ []) so same ∙ sym (map-append (kept_report only lines) selected (next ∷ [])),
    )

pub shown_all : (only completed : Bool) (lines : List LineView) (reports shown : List ReportView) (i : ℕ) → length reports ≤ i → IsPossible (length lines) (chart_lines lines) → AreReports lines reports → HaveShown only completed lines (take i reports) shown
    → AreShown (record { receives = only; run_to_completion = completed }) lines shown
shown_all only completed lines reports shown i beyond possible are (selected, so_far, so) =
    let whole = subst (λ (rs : List ReportView). AreSelectedOf completed (chart_lines lines) rs selected) (take_all i reports beyond) so_far in
    (selected, selected_are completed (length lines) lines reports selected possible are whole, so)

-- A chart has one list of them:

same_events : (p : ℕ) (xs ys : List EventNo) → map (λ (e : EventNo). e.index) xs ≡ map (λ (e : EventNo). e.index) ys → All (λ (e : EventNo). e.instance ≡ p) xs → All (λ (e : EventNo). e.instance ≡ p) ys → xs ≡ ys
same_events p [] [] same a b = refl
same_events p [] (y ∷ ys) same a b = cc
same_events p (x ∷ xs) [] same a b = cc
same_events p (x ∷ xs) (y ∷ ys) same a b =
    let index : x.index ≡ y.index = cc in
    let rest : map (λ (e : EventNo). e.index) xs ≡ map (λ (e : EventNo). e.index) ys = cc in
    let instance : x.instance ≡ y.instance = All-head (λ (e : EventNo). e.instance ≡ p) x xs a ∙ sym (All-head (λ (e : EventNo). e.instance ≡ p) y ys b) in
    let event : ℕ → ℕ → EventNo = λ i j. record { instance = i; index = j } in
    let first : x ≡ y = ap₂ (λ i j. event i j) instance index in
    ap₂ (λ (e : EventNo) es. e ∷ es) first (same_events p xs ys rest (All-tail (λ (e : EventNo). e.instance ≡ p) x xs a) (All-tail (λ (e : EventNo). e.instance ≡ p) y ys b))

same_indices : (c : Chart) (r : Place) (xs ys : List ℕ) → IsCompletedReport c r xs → IsCompletedReport c r ys → xs ≡ ys
same_indices c r xs ys a b = same_rising xs ys a.rising b.rising (λ j. (λ here. (b.exact j).1 ((a.exact j).0 here), λ there. (a.exact j).1 ((b.exact j).0 there)))

same_completed_of : (c : Chart) (x y : ReportView) → x.receive ≡ y.receive → IsCompletedReportIn c x → IsCompletedReportIn c y → x ≡ y
same_completed_of c x y same a b =
    let exact = subst (λ (e : EventNo). IsCompletedReport c (at e.instance e.index) (map (λ (race : EventNo). race.index) y.earlier)) (sym same) b.exact in
    let line = subst (λ (e : EventNo). All (λ (race : EventNo). race.instance ≡ e.instance) y.earlier) (sym same) b.line in
    let indices = same_indices c (at x.receive.instance x.receive.index) (map (λ (race : EventNo). race.index) x.earlier) (map (λ (race : EventNo). race.index) y.earlier) a.exact exact in
    let report : EventNo → List EventNo → ReportView = λ e es. record { receive = e; earlier = es } in
    ap₂ (λ (e : EventNo) (es : List EventNo). report e es) same (same_events x.receive.instance x.earlier y.earlier indices a.line line)

same_completed : (c : Chart) (xs ys : List ReportView) → map (λ (r : ReportView). r.receive) xs ≡ map (λ (r : ReportView). r.receive) ys → All (IsCompletedReportIn c) xs → All (IsCompletedReportIn c) ys → xs ≡ ys
same_completed c [] [] same a b = refl
same_completed c [] (y ∷ ys) same a b = cc
same_completed c (x ∷ xs) [] same a b = cc
same_completed c (x ∷ xs) (y ∷ ys) same a b =
    let first : x.receive ≡ y.receive = cc in
    let rest : map (λ (r : ReportView). r.receive) xs ≡ map (λ (r : ReportView). r.receive) ys = cc in
    ap₂ (λ (r : ReportView) rs. r ∷ rs) (same_completed_of c x y first (All-head (IsCompletedReportIn c) x xs a) (All-head (IsCompletedReportIn c) y ys b))
    (same_completed c xs ys rest (All-tail (IsCompletedReportIn c) x xs a) (All-tail (IsCompletedReportIn c) y ys b))

one_selected : (completed : Bool) (lines : List LineView) (xs ys : List ReportView) → AreSelected completed lines xs → AreSelected completed lines ys → xs ≡ ys
one_selected false lines xs ys a b = one_list lines xs ys a b
one_selected true lines xs ys a b = same_completed (chart_lines lines) xs ys (a.receives ∙ sym b.receives) a.each b.each

pub one_shown : (showing : Showing) (lines : List LineView) (xs ys : List ReportView) → AreShown showing lines xs → AreShown showing lines ys → xs ≡ ys
one_shown showing lines xs ys (a, are_a, is_a) (b, are_b, is_b) =
    is_a ∙ ap (map (kept_report showing.receives lines)) (one_selected showing.run_to_completion lines a b are_a are_b) ∙ sym is_b

-- Each of their events is a race:

-- an event of the receive's line, earlier and in no coregion with the receive, that isn't enforced before it
pub record IsRaceOf (c : Chart) (r e : EventNo) : Type 0 where
  pub line : e.instance ≡ r.instance
  pub less : e.index < r.index
  pub apart : (m : Event) × (chart_event c (at r.instance e.index) ≡ Some m) × (is_in (region_of_event (chart_event c (at r.instance r.index))) m ≡ false)
  pub free : Before c (at r.instance e.index) (at r.instance r.index) → ⊥

races_by : (c : Chart) (report : ReportView) (B : Place → Place → Type 0) → ((e f : Place) → Before c e f → B e f)
    → ((j : ℕ) → Contains (map (λ (x : EventNo). x.index) report.earlier) j → (j < report.receive.index) × ((m : Event) × (chart_event c (at report.receive.instance j) ≡ Some m) × (is_in (region_of_event (chart_event c (at report.receive.instance report.receive.index))) m ≡ false)) × (B (at report.receive.instance j) (at report.receive.instance report.receive.index) → ⊥))
    → All (λ (race : EventNo). race.instance ≡ report.receive.instance) report.earlier → All (IsRaceOf c report.receive) report.earlier
races_by c report B within_b exact line i d within =
    let e = get_or report.earlier i d in
    let r = report.receive in
    let long = length-map report.earlier (λ (x : EventNo). x.index) in
    let contains : Contains (map (λ (x : EventNo). x.index) report.earlier) e.index = (i, omega (arith, long, within), get_or-map (λ (x : EventNo). x.index) report.earlier i d e.index within) in
    let w = exact e.index contains in
    record {
      line = line i d within;
      less = w.0;
      apart = w.1;
      free = λ before. w.2 (within_b (at r.instance e.index) (at r.instance r.index) before);
    }

-- the same of each event of a report
abbrev pub HasRaces : Chart → ReportView → Type 0
HasRaces c report = All (IsRaceOf c report.receive) report.earlier

pub selected_races : (completed : Bool) (lines : List LineView) (reports : List ReportView) → AreSelected completed lines reports → All (HasRaces (chart_lines lines)) reports
selected_races false lines reports are i d within =
    let c = chart_lines lines in
    let is = are.are.each i d within in
    races_by c (get_or reports i d) (Before c) (λ e f before. before) (λ j here. (is.exact.exact j).0 here) is.line
selected_races true lines reports are i d within =
    let c = chart_lines lines in
    let is = are.each i d within in
    races_by c (get_or reports i d) (Completed c) (λ e f before. part before) (λ j here. (is.exact.exact j).0 here) is.line

-- they are in rising order
pub selected_rising : (completed : Bool) (lines : List LineView) (reports : List ReportView) → AreSelected completed lines reports → All (λ (report : ReportView). AllPairs (λ i j. i < j) (map (λ (e : EventNo). e.index) report.earlier)) reports
selected_rising false lines reports are i d within = (are.are.each i d within).exact.rising
selected_rising true lines reports are i d within = (are.each i d within).exact.rising

pub selected_receives : (completed : Bool) (lines : List LineView) (reports : List ReportView) → AreSelected completed lines reports → map (λ (r : ReportView). r.receive) reports ≡ flat_map receives_of lines
selected_receives false lines reports are = are.are.receives
selected_receives true lines reports are = are.receives

pub shown_races : (showing : Showing) (lines : List LineView) (shown : List ReportView) → AreShown showing lines shown → All (HasRaces (chart_lines lines)) shown
shown_races showing lines shown (reports, are, is) =
    let c = chart_lines lines in
    let kept = kept_report showing.receives lines in
    subst (All (HasRaces c)) (sym is)
    (All-map (HasRaces c) kept reports
    (All-weaker (HasRaces c) (λ (r : ReportView). HasRaces c (kept r)) (λ r races. All-filter (is_kept (c r.receive.instance) showing.receives) (IsRaceOf c r.receive) r.earlier races) reports (selected_races showing.run_to_completion lines reports are)))

kept_receives : (only : Bool) (lines : List LineView) (reports : List ReportView) → map (λ (r : ReportView). r.receive) (map (kept_report only lines) reports) ≡ map (λ (r : ReportView). r.receive) reports
kept_receives only lines [] = refl
kept_receives only lines (r ∷ rs) = ap (λ (es : List EventNo). r.receive ∷ es) (kept_receives only lines rs)

pub shown_receives : (showing : Showing) (lines : List LineView) (shown : List ReportView) → AreShown showing lines shown → map (λ (r : ReportView). r.receive) shown ≡ flat_map receives_of lines
shown_receives showing lines shown (reports, are, is) =
    ap (map (λ (r : ReportView). r.receive)) is ∙ kept_receives showing.receives lines reports ∙ selected_receives showing.run_to_completion lines reports are

-- What the functions are given and give:

-- another fact of a value, if there is one
pub some_also : {X : Type 0} (P Q : X → Type 0) → ((x : X) → P x → Q x) → (o : Option X) → IfSome o P → IfSome o Q
some_also P Q also None is = is
some_also P Q also (Some x) is = also x is

-- the number up to which a completion of the chart passes events, if there is a completion
pub passed_is : (completion : Option (Bor Completion)) (lines : List LineView) (r : Place) (passed : ℕ) → IfSome completion (λ k. k.now ≡ lines) → MatchOption completion (passed ≡ 0) (λ k. IsFinishedUpTo (chart_lines k.now) r passed)
    → IsPassed (is_there completion) (chart_lines lines) r passed
passed_is None lines r passed same is = is
passed_is (Some k) lines r passed same is = subst (λ (ls : List LineView). IsFinishedUpTo (chart_lines ls) r passed) same is

-- a choice by what it says of run to completion
pub shown_as : (showing : Showing) (completed : Bool) (lines : List LineView) (shown : List ReportView) → showing.run_to_completion ≡ completed → AreShown (record { receives = showing.receives; run_to_completion = completed }) lines shown → AreShown showing lines shown
shown_as showing completed lines shown is are =
    subst (λ (b : Bool). AreShown (record { receives = showing.receives; run_to_completion = b }) lines shown) (sym is) are

pub shown_unless : (only : Bool) (lines : List LineView) (reports : List ReportView) → only ≡ false → AreReports lines reports → AreShown (record { receives = only; run_to_completion = false }) lines reports
shown_unless only lines reports is are =
    subst (λ (b : Bool). AreShown (record { receives = b; run_to_completion = false }) lines reports) (sym is) (shown_whole lines reports are)
