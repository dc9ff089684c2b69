-- The reports that are selected: the chart's, or those that remain with run to completion.
use Rattle.std.proofs.Common.{◌≡◌, ℕ, suc, ◌<◌, ◌≤◌, Bool, true, false, cond, nat_lt, List, [], ◌∷◌, ◌++◌, map, All, Contains, refl, sym, ap, ap₂, ◌∙◌, subst, arith, lt-ltb}
use Rattle.std.specs.Prelude.{filter}
use Rattle.std.proofs.lemmas.List.Elements.{All-nil, All-cons, All-head, All-tail, All-filter}
use Rattle.chart.specs.declared.event.Event.{Event}
use Rattle.chart.specs.declared.instance.EventNo.{EventNo}
use Rattle.chart.specs.Charts.{Chart, at, LineView, IsPossible, chart_lines}
use Rattle.chart.specs.Reports.{ReportView, IsReportIn, AreReports}
use Rattle.chart.proofs.Tally.{ith_within}
use Rattle.reordering.specs.Completion.Orders.{IsCompletedReport, IsCompletedReportIn}
use Rattle.reordering.proofs.CompletionLemmas.LeftRaces.{left_of}
use Rattle.reordering.proofs.CompletionLemmas.OrderLemmas.{number_of}
use Rattle.reordering.proofs.CompletionLemmas.Possible.{IsSound, is_sound}
use Rattle.shown_races.specs.Kept.{is_kept, is_later, later_than, is_kept_after, kept_events}
use Rattle.shown_races.specs.Selected.{AreSelected, IsSelectedOf, AreSelectedOf, without_first}
use Rattle.shown_races.specs.Selected.AreSelectedOf.{none, more}

-- two filters, one after the other
pub filter_both : (a b : EventNo → Bool) (xs : List EventNo) → filter (λ e. cond (a e) (b e) false) xs ≡ filter b (filter a xs)
filter_both a b [] = refl
filter_both a b (x ∷ xs) = go (a x) (filter_both a b xs)
  where
    go : (first : Bool) → filter (λ e. cond (a e) (b e) false) xs ≡ filter b (filter a xs)
        → cond (cond first (b x) false) (x ∷ filter (λ e. cond (a e) (b e) false) xs) (filter (λ e. cond (a e) (b e) false) xs) ≡ filter b (cond first (x ∷ filter a xs) (filter a xs))
    go true rest = ap (λ l. cond (b x) (x ∷ l) l) rest
    go false rest = rest

pub kept_events_later : (events : List Event) (only : Bool) (passed : ℕ) (earlier : List EventNo) → filter (is_kept_after events only passed) earlier ≡ kept_events events only (later_than passed earlier)
kept_events_later events only passed earlier = filter_both (is_later passed) (is_kept events only) earlier

-- The numbers of later events.

map_later : (passed : ℕ) (xs : List EventNo) → map (λ (e : EventNo). e.index) (later_than passed xs) ≡ filter (nat_lt passed) (map (λ (e : EventNo). e.index) xs)
map_later passed [] = refl
map_later passed (x ∷ xs) = go (nat_lt passed x.index) (map_later passed xs)
  where
    go : (b : Bool) → map (λ (e : EventNo). e.index) (later_than passed xs) ≡ filter (nat_lt passed) (map (λ (e : EventNo). e.index) xs)
        → map (λ (e : EventNo). e.index) (cond b (x ∷ later_than passed xs) (later_than passed xs)) ≡ cond b (x.index ∷ filter (nat_lt passed) (map (λ (e : EventNo). e.index) xs)) (filter (nat_lt passed) (map (λ (e : EventNo). e.index) xs))
    go true rest = ap (λ l. x.index ∷ l) rest
    go false rest = rest

all_later : (xs : List EventNo) → ((j : ℕ) → Contains (map (λ (e : EventNo). e.index) xs) j → 1 ≤ j) → later_than 0 xs ≡ xs
all_later [] begun = refl
all_later (x ∷ xs) begun =
    let first : 0 < x.index = begun x.index (0, omega arith, refl) in
    ap (λ b. cond b (x ∷ later_than 0 xs) (later_than 0 xs)) (lt-ltb 0 x.index first)
    ∙ ap (λ l. x ∷ l) (all_later xs (λ j here. begun j (suc here.0, omega (arith, here.1), here.2)))

-- The reports of a chart.

module _ (c : Chart) where
  same_selected : (report selected : ReportView) → IsReportIn c report → IsSelectedOf false c report selected → selected ≡ report
  same_selected report selected is (passed, nothing, same) =
      let begun = λ (j : ℕ) (here : Contains (map (λ (e : EventNo). e.index) report.earlier) j). let m = ((is.exact.exact j).0 here).1 in (ith_within (c report.receive.instance) j m.0 m.1).0 in
      same ∙ ap (λ (k : ℕ). without_first k report) nothing ∙ ap (λ (es : List EventNo). record { receive = report.receive; earlier = es }) (all_later report.earlier begun)

  all_selected : {reports selected : List ReportView} → AreSelectedOf false c reports selected → All (IsReportIn c) reports → selected ≡ reports
  all_selected none each = refl
  all_selected (more {report = r} {selected = t} {reports = rs} {others = ts} is rest) each =
      ap₂ (λ x xs. x ∷ xs) (same_selected r t (All-head (IsReportIn c) r rs each) is) (all_selected rest (All-tail (IsReportIn c) r rs each))

  module _ (sound : IsSound c) where
    left_selected : (report selected : ReportView) → IsReportIn c report → IsSelectedOf true c report selected → IsCompletedReportIn c selected
    left_selected report selected is (passed, up_to, same) =
        let place = at report.receive.instance report.receive.index in
        subst (IsCompletedReportIn c) (sym same) (record {
          exact = subst (λ xs. IsCompletedReport c place xs) (sym (map_later passed report.earlier)) (left_of c sound report.receive.instance report.receive.index passed (map (λ (e : EventNo). e.index) report.earlier) is.exact up_to);
          line = All-filter (is_later passed) (λ (race : EventNo). race.instance ≡ report.receive.instance) report.earlier is.line;
        })

    all_left : {reports selected : List ReportView} → AreSelectedOf true c reports selected → All (IsReportIn c) reports → All (IsCompletedReportIn c) selected
    all_left none each = All-nil (IsCompletedReportIn c)
    all_left (more {report = r} {selected = t} {reports = rs} {others = ts} is rest) each =
        All-cons (IsCompletedReportIn c) t ts (left_selected r t (All-head (IsReportIn c) r rs each) is) (all_left rest (All-tail (IsReportIn c) r rs each))

    same_receives : {reports selected : List ReportView} → AreSelectedOf true c reports selected → map (λ (r : ReportView). r.receive) selected ≡ map (λ (r : ReportView). r.receive) reports
    same_receives none = refl
    same_receives (more is rest) = ap₂ (λ x xs. x ∷ xs) (ap (λ (r : ReportView). r.receive) is.2) (same_receives rest)

    -- there is a selected report for each report
    pub selected_exist : (completed : Bool) (reports : List ReportView) → (selected : List ReportView) × AreSelectedOf completed c reports selected
    selected_exist completed [] = ([], none)
    selected_exist false (r ∷ reports) = let w = selected_exist false reports in (without_first 0 r ∷ w.0, more (0, refl, refl) w.1)
    selected_exist true (r ∷ reports) =
        let w = selected_exist true reports in
        let k = number_of c sound (at r.receive.instance r.receive.index) in
        (without_first k.0 r ∷ w.0, more (k.0, k.1, refl) w.1)

  -- the selected reports for two lists, one after the other
  pub selected_append : {completed : Bool} {xs ts ys us : List ReportView} → AreSelectedOf completed c xs ts → AreSelectedOf completed c ys us → AreSelectedOf completed c (xs ++ ys) (ts ++ us)
  selected_append none others = others
  selected_append (more is rest) others = more is (selected_append rest others)

  pub selected_push : {completed : Bool} {xs ts : List ReportView} (x t : ReportView) → AreSelectedOf completed c xs ts → IsSelectedOf completed c x t → AreSelectedOf completed c (xs ++ x ∷ []) (ts ++ t ∷ [])
  selected_push x t are is = selected_append are (more is none)

-- the selected reports for all of the chart's are those that the definition selects
pub selected_are : (completed : Bool) (n : ℕ) (lines : List LineView) (reports selected : List ReportView) → IsPossible n (chart_lines lines) → AreReports lines reports → AreSelectedOf completed (chart_lines lines) reports selected → AreSelected completed lines selected
selected_are false n lines reports selected possible reported are = subst (AreReports lines) (sym (all_selected (chart_lines lines) are reported.are.each)) reported
selected_are true n lines reports selected possible reported are =
    let sound = is_sound n (chart_lines lines) possible in
    record { receives = same_receives (chart_lines lines) sound are ∙ reported.are.receives; each = all_left (chart_lines lines) sound are reported.are.each }
