-- How many reports a chart has, and how many races each.
use Rattle.std.proofs.Common.{◌≡◌, ℕ, zero, suc, ◌+◌, ◌*◌, ◌<◌, ◌≤◌, inl, inr, Bool, true, false, cond, filter, List, [], ◌∷◌, length, map, get_or, All, AllPairs, refl, sym, ap, ◌∙◌, subst, arith}
use Rattle.std.specs.List.{flat_map}
use Rattle.std.proofs.lemmas.Bool.{cases_lt}
use Rattle.std.proofs.lemmas.List.{length-append, length-map, get_or-map}
use Rattle.std.proofs.lemmas.List.Concat.{flat_map-cons}
use Rattle.std.proofs.lemmas.List.Elements.{All-head, All-tail, All-map, All-weaker}
use Rattle.chart.specs.declared.event.Event.{Event}
use Rattle.chart.specs.declared.event.Event.TheVariants.{Send, Receive}
use Rattle.chart.specs.declared.instance.EventNo.{EventNo}
use Rattle.chart.specs.declared.instance.TheConstants.{MAX_INSTANCES}
use Rattle.chart.specs.declared.line.TheConstants.{MAX_EVENTS}
use Rattle.chart.specs.Charts.{LineView, IsLine, IsChart, chart_lines}
use Rattle.chart.specs.Reports.{ReportView, AreReports, receives_from, receives_of}
use Rattle.chart.proofs.Tally.{ith_within}
use Rattle.closure.proofs.ReadLemmas.{line_short, empty_line}
use Rattle.repair.specs.Repairs.{AreFew}
use Rattle.shown_races.specs.Kept.{is_kept}
use Rattle.shown_races.specs.Selected.{AreSelected}
use Rattle.shown_races.specs.Shown.{kept_report, AreShown}
use Rattle.shown_races.specs.declared.showing.Showing.{Showing}
use Rattle.shown_races.proofs.ShownLemmas.{selected_receives, selected_races, selected_rising}

-- each line of a chart is short enough
pub line_shorts : (lines : List LineView) (p : ℕ) → IsChart lines → length (chart_lines lines p) ≤ MAX_EVENTS
line_shorts lines zero is = omega arith
line_shorts lines (suc p) is = elim (cases_lt p (length lines)) [
  | inl within ↦ line_short lines p is within
  | inr beyond ↦ let none = ap (λ (l : List Event). length l) (empty_line lines p beyond) in omega arith
]

-- no more receives than events
few_from : (p i : ℕ) (line : List Event) → length (receives_from p i line) ≤ length line
few_from p i [] = omega arith
few_from p i (Send to name ∷ line) = let rest = few_from p (i + 1) line in omega (arith, rest)
few_from p i (Receive from name region ∷ line) = let rest = few_from p (i + 1) line in omega (arith, rest)

few_receives : (lines : List LineView) → All IsLine lines → length (flat_map receives_of lines) ≤ length lines * MAX_EVENTS
few_receives [] each = omega arith
few_receives (l ∷ lines) each =
    let all = ap (λ (es : List EventNo). length es) (flat_map-cons receives_of l lines) ∙ length-append (receives_of l) (flat_map receives_of lines) in
    let first = few_from l.instance 1 l.events in
    let short = (All-head IsLine l lines each).short in
    let rest = few_receives lines (All-tail IsLine l lines each) in
    omega (arith, all, first, short, rest)

-- rising numbers from 1 on are at least their places, and so are few
rising_least : (xs : List ℕ) → AllPairs (λ i j. i < j) xs → All (λ i. 1 ≤ i) xs → (k d : ℕ) → k < length xs → k < get_or xs k d
rising_least xs rising begun zero d within = begun 0 d within
rising_least xs rising begun (suc k) d within =
    let before = rising_least xs rising begun k d (omega (arith, within)) in
    let up = rising k (suc k) d (omega arith) within in
    omega (arith, before, up)

few_rising : (xs : List ℕ) (n : ℕ) → AllPairs (λ i j. i < j) xs → All (λ i. 1 ≤ i) xs → All (λ i. i ≤ n) xs → length xs ≤ n
few_rising xs n rising begun within = by (length xs) refl
  where
    by : (m : ℕ) → length xs ≡ m → length xs ≤ n
    by zero many = omega (arith, many)
    by (suc m) many =
        let inside : m < length xs = omega (arith, many) in
        omega (arith, many, rising_least xs rising begun m 0 inside, within m 0 inside)

-- the reports that are selected
few_selected : (completed : Bool) (lines : List LineView) (reports : List ReportView) → IsChart lines → AreSelected completed lines reports → AreFew reports
few_selected completed lines reports chart are = record { count = count; each = each }
  where
    count : length reports ≤ MAX_INSTANCES * MAX_EVENTS
    count =
        let long = length-map reports (λ (r : ReportView). r.receive) in
        let same = ap (λ (es : List EventNo). length es) (selected_receives completed lines reports are) in
        let few = few_receives lines chart.each in
        let limit = chart.limit in
        omega (arith, long, same, few, limit)

    each : All (λ (report : ReportView). length report.earlier ≤ MAX_EVENTS) reports
    each i d within =
        let report = get_or reports i d in
        let races = selected_races completed lines reports are i d within in
        let p = report.receive.instance in
        let indices = map (λ (e : EventNo). e.index) report.earlier in
        let many = length-map report.earlier (λ (e : EventNo). e.index) in
        let at : (k e : ℕ) → k < length indices → (1 ≤ get_or indices k e) × (get_or indices k e ≤ length (chart_lines lines p)) = λ k e inside.
        let here : k < length report.earlier = omega (arith, inside, many) in
        let race = races k report.receive here in
        let same = get_or-map (λ (x : EventNo). x.index) report.earlier k report.receive e here in
        subst (λ n. (1 ≤ n) × (n ≤ length (chart_lines lines p))) (sym same) (ith_within (chart_lines lines p) (get_or report.earlier k report.receive).index race.apart.0 race.apart.1) in
        let few = few_rising indices (length (chart_lines lines p)) (selected_rising completed lines reports are i d within) (λ k e inside. (at k e inside).0) (λ k e inside. (at k e inside).1) in
        let short = line_shorts lines p chart in
        omega (arith, few, many, short)

-- the reports of a chart
pub few_reports : (lines : List LineView) (reports : List ReportView) → IsChart lines → AreReports lines reports → AreFew reports
few_reports lines reports chart are = few_selected false lines reports chart are

-- fewer events that pass
pub no_longer : (test : EventNo → Bool) (xs : List EventNo) → length (filter test xs) ≤ length xs
no_longer test [] = omega arith
no_longer test (x ∷ xs) = go (test x) (no_longer test xs)
  where
    go : (b : Bool) → length (filter test xs) ≤ length xs → length (cond b (x ∷ filter test xs) (filter test xs)) ≤ suc (length xs)
    go true rest = omega (arith, rest)
    go false rest = omega (arith, rest)

-- the reports of the races that are shown
pub few_shown : (showing : Showing) (lines : List LineView) (shown : List ReportView) → IsChart lines → AreShown showing lines shown → AreFew shown
few_shown showing lines shown chart (reports, are, is) = subst AreFew (sym is) (record { count = count; each = each })
  where
    kept : ReportView → ReportView
    kept = kept_report showing.receives lines

    few : AreFew reports
    few = few_selected showing.run_to_completion lines reports chart are

    count : length (map kept reports) ≤ MAX_INSTANCES * MAX_EVENTS
    count = let long = length-map reports kept in let many = few.count in omega (arith, long, many)

    each : All (λ (report : ReportView). length report.earlier ≤ MAX_EVENTS) (map kept reports)
    each =
        All-map (λ (report : ReportView). length report.earlier ≤ MAX_EVENTS) kept reports
        (All-weaker (λ (report : ReportView). length report.earlier ≤ MAX_EVENTS) (λ (report : ReportView). length (kept report).earlier ≤ MAX_EVENTS)
        (λ report short. let fewer = no_longer (is_kept (chart_lines lines report.receive.instance) showing.receives) report.earlier in omega (arith, fewer, short)) reports few.each)
