-- The reports of a chart's receives, in their order.
use Rattle.std.proofs.Common.{◌≡◌, ℕ, suc, ◌+◌, ◌<◌, ◌≤◌, List, [], ◌∷◌, ◌++◌, length, map, get_or, refl, sym, ap, ap₂, ◌∙◌, subst, arith}
use Rattle.std.specs.Prelude.{All}
use Rattle.std.proofs.lemmas.List.{length-map, map-append, get_or-map}
use Rattle.std.proofs.lemmas.List.Concat.{flat_map-cons}
use Rattle.std.proofs.lemmas.List.Elements.{All-nil, All-cons, All-append, All-head, All-tail, All-weaker}
use Rattle.chart.specs.declared.history.Occurrence.{Occurrence}
use Rattle.chart.specs.declared.event.Event.{Event}
use Rattle.chart.specs.declared.event.Event.TheVariants as line_events
use Rattle.chart.specs.declared.instance.EventNo.{EventNo}
use Rattle.chart.specs.Charts.{Chart, at, LineView}
use Rattle.chart.specs.Histories.{chart_of, IsLegal, Begins}
use Rattle.chart.specs.Events.{send_event, receive_event}
use Rattle.chart.specs.Order.{IsReport}
use Rattle.chart.specs.Places.{IsEvent}
use Rattle.chart.specs.Reports.{ReportView, IsReportIn, AreReportsOf, receives_from, receives_of}
use Rattle.chart.proofs.Begun.{report_begun}
use Rattle.chart.proofs.Existence.{same_report}

-- the receives of a line are events of it
pub receives-within : (p i : ℕ) (line : List Event) → All (λ (e : EventNo). (e.instance ≡ p) × (i ≤ e.index) × (e.index < i + length line)) (receives_from p i line)
receives-within p i [] = All-nil (λ (e : EventNo). (e.instance ≡ p) × (i ≤ e.index) × (e.index < i + 0))
receives-within p i (line_events.Send to name ∷ line) =
    All-weaker (λ (e : EventNo). (e.instance ≡ p) × (i + 1 ≤ e.index) × (e.index < i + 1 + length line)) (λ (e : EventNo). (e.instance ≡ p) × (i ≤ e.index) × (e.index < i + suc (length line)))
    (λ e w. (w.0, omega (arith, w.1), omega (arith, w.2))) (receives_from p (i + 1) line) (receives-within p (i + 1) line)
receives-within p i (line_events.Receive from name region ∷ line) =
    All-cons (λ (e : EventNo). (e.instance ≡ p) × (i ≤ e.index) × (e.index < i + suc (length line))) (record { instance = p; index = i }) (receives_from p (i + 1) line) (refl, omega arith, omega arith)
    (All-weaker (λ (e : EventNo). (e.instance ≡ p) × (i + 1 ≤ e.index) × (e.index < i + 1 + length line)) (λ (e : EventNo). (e.instance ≡ p) × (i ≤ e.index) × (e.index < i + suc (length line)))
    (λ e w. (w.0, omega (arith, w.1), omega (arith, w.2))) (receives_from p (i + 1) line) (receives-within p (i + 1) line))

-- a send at the end adds no receive
pub receives-send : (p i : ℕ) (line : List Event) (to : ℕ) (name : List ℕ) → receives_from p i (line ++ send_event to name ∷ []) ≡ receives_from p i line
receives-send p i [] to name = refl
receives-send p i (line_events.Send a b ∷ line) to name = receives-send p (i + 1) line to name
receives-send p i (line_events.Receive a b c ∷ line) to name = ap (λ es. record { instance = p; index = i } ∷ es) (receives-send p (i + 1) line to name)

-- a receive at the end is the last one
pub receives-receive : (p i : ℕ) (line : List Event) (from : ℕ) (name : List ℕ) (region : ℕ) → receives_from p i (line ++ receive_event from name region ∷ []) ≡ receives_from p i line ++ record { instance = p; index = length line + i } ∷ []
receives-receive p i [] from name region = let e : i ≡ 0 + i = omega arith in ap (λ x. record { instance = p; index = x } ∷ []) e
receives-receive p i (line_events.Send a b ∷ line) from name region =
    let place : length line + (i + 1) ≡ suc (length line) + i = omega arith in
    receives-receive p (i + 1) line from name region ∙ ap (λ x. receives_from p (i + 1) line ++ record { instance = p; index = x } ∷ []) place
receives-receive p i (line_events.Receive a b c ∷ line) from name region =
    let place : length line + (i + 1) ≡ suc (length line) + i = omega arith in
    ap (λ es. record { instance = p; index = i } ∷ es) (receives-receive p (i + 1) line from name region ∙ ap (λ x. receives_from p (i + 1) line ++ record { instance = p; index = x } ∷ []) place)

-- the reports of a line stay those of the chart
pub reports_begun : (n k : ℕ) (h g : List Occurrence) → IsLegal n k h → Begins h g → (p : ℕ) (reports : List ReportView) → map (λ (report : ReportView). report.receive) reports ≡ receives_from p 1 (chart_of h p) → All (IsReportIn (chart_of h)) reports → All (IsReportIn (chart_of g)) reports
reports_begun n k h g legal begins p reports receives old i d inside =
    let report = get_or reports i d in
    let long = length-map reports (λ (r : ReportView). r.receive) in
    let at_i : get_or (map (λ (r : ReportView). r.receive) reports) i d.receive ≡ report.receive = get_or-map (λ (r : ReportView). r.receive) reports i d d.receive inside in
    let there : get_or (receives_from p 1 (chart_of h p)) i d.receive ≡ report.receive = ap (λ es. get_or es i d.receive) (sym receives) ∙ at_i in
    let within : i < length (receives_from p 1 (chart_of h p)) = omega (arith, inside, long, ap length receives) in
    let w = subst (λ (e : EventNo). (e.instance ≡ p) × (1 ≤ e.index) × (e.index < 1 + length (chart_of h p))) there (receives-within p 1 (chart_of h p) i d.receive within) in
    let its = old i d inside in
    let here : IsEvent (chart_of h) (at report.receive.instance report.receive.index) = subst (λ x. IsEvent (chart_of h) (at x report.receive.index)) (sym w.0) (w.1, omega (arith, w.2)) in
    record { exact = report_begun n k h g legal begins (at report.receive.instance report.receive.index) (map (λ race. race.index) report.earlier) here its.exact; line = its.line }

-- the reports of a line, and those of the lines after it
pub AreReportsOf-cons : (c : Chart) (l : LineView) (lines : List LineView) (own more : List ReportView) → map (λ (r : ReportView). r.receive) own ≡ receives_of l → All (IsReportIn c) own → AreReportsOf c lines more → AreReportsOf c (l ∷ lines) (own ++ more)
AreReportsOf-cons c l lines own more receives each rest = record {
  receives = map-append (λ (r : ReportView). r.receive) own more ∙ ap₂ (λ xs ys. xs ++ ys) receives rest.receives ∙ sym (flat_map-cons receives_of l lines);
  each = All-append (IsReportIn c) own more each rest.each;
}

-- the reports of no lines
pub AreReportsOf-nil : (c : Chart) → AreReportsOf c [] []
AreReportsOf-nil c = record { receives = refl; each = All-nil (IsReportIn c) }

abbrev event : ℕ → ℕ → EventNo
event p i = record { instance = p; index = i }

abbrev report : EventNo → List EventNo → ReportView
report e es = record { receive = e; earlier = es }

-- events of one instance are the same if their numbers are
same_events : (p : ℕ) (xs ys : List EventNo) → map (λ (e : EventNo). e.index) xs ≡ map (λ (e : EventNo). e.index) ys → All (λ (e : EventNo). e.instance ≡ p) xs → All (λ (e : EventNo). e.instance ≡ p) ys → xs ≡ ys
same_events p [] [] same a b = refl
same_events p [] (y ∷ ys) same a b = cc
same_events p (x ∷ xs) [] same a b = cc
same_events p (x ∷ xs) (y ∷ ys) same a b =
    let index : x.index ≡ y.index = cc in
    let rest : map (λ (e : EventNo). e.index) xs ≡ map (λ (e : EventNo). e.index) ys = cc in
    let instance : x.instance ≡ y.instance = All-head (λ (e : EventNo). e.instance ≡ p) x xs a ∙ sym (All-head (λ (e : EventNo). e.instance ≡ p) y ys b) in
    let first : x ≡ y = ap₂ (λ i j. event i j) instance index in
    ap₂ (λ e es. e ∷ es) first (same_events p xs ys rest (All-tail (λ (e : EventNo). e.instance ≡ p) x xs a) (All-tail (λ (e : EventNo). e.instance ≡ p) y ys b))

-- a receive has one report
same_report_of : (c : Chart) (x y : ReportView) → x.receive ≡ y.receive → IsReportIn c x → IsReportIn c y → x ≡ y
same_report_of c x y same a b =
    let exact = subst (λ (e : EventNo). IsReport c (at e.instance e.index) (map (λ race. race.index) y.earlier)) (sym same) b.exact in
    let line = subst (λ (e : EventNo). All (λ race. race.instance ≡ e.instance) y.earlier) (sym same) b.line in
    let indices = same_report c (at x.receive.instance x.receive.index) (map (λ race. race.index) x.earlier) (map (λ race. race.index) y.earlier) a.exact exact in
    ap₂ (λ (e : EventNo) (es : List EventNo). report e es) same (same_events x.receive.instance x.earlier y.earlier indices a.line line)

-- several receives have only one list of reports
pub same_reports : (c : Chart) (xs ys : List ReportView) → map (λ (r : ReportView). r.receive) xs ≡ map (λ (r : ReportView). r.receive) ys → All (IsReportIn c) xs → All (IsReportIn c) ys → xs ≡ ys
same_reports c [] [] same a b = refl
same_reports c [] (y ∷ ys) same a b = cc
same_reports c (x ∷ xs) [] same a b = cc
same_reports c (x ∷ xs) (y ∷ ys) same a b =
    let first : x.receive ≡ y.receive = cc in
    let rest : map (λ (r : ReportView). r.receive) xs ≡ map (λ (r : ReportView). r.receive) ys = cc in
    ap₂ (λ r rs. r ∷ rs) (same_report_of c x y first (All-head (IsReportIn c) x xs a) (All-head (IsReportIn c) y ys b)) (same_reports c xs ys rest (All-tail (IsReportIn c) x xs a) (All-tail (IsReportIn c) y ys b))
