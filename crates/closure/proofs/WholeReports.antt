-- In a possible chart the reports so far can be continued to those of all receives.
use Rattle.std.proofs.Common.{◌≡◌, ℕ, zero, suc, ◌+◌, ◌-◌, ◌<◌, ◌≤◌, List, [], ◌∷◌, ◌++◌, length, map, get_or, All, Some, refl, sym, ap, subst, arith, append_assoc, append-nil}
use Rattle.std.proofs.Math.Path.{fun_ext}
use Rattle.std.proofs.lemmas.Bool.{eq-eqb}
use Rattle.std.proofs.lemmas.Option.{slice_get-get_or}
use Rattle.std.proofs.lemmas.List.Elements.{All-nil, All-cons}
use Rattle.chart.specs.declared.event.Event.{Event}
use Rattle.chart.specs.declared.event.Event.TheVariants.{Send, Receive}
use Rattle.chart.specs.declared.instance.EventNo.{EventNo}
use Rattle.chart.specs.Events.{send_event}
use Rattle.chart.specs.Charts.{Chart, Place, at, chart_event, LineView, IsReceiveFrom, IsPossible, IsNumbered, chart_lines}
use Rattle.chart.specs.Order.{IsReport}
use Rattle.chart.specs.Reports.{ReportView, AreReports}
use Rattle.chart.proofs.Existence.{report_exists}
use Rattle.closure.specs.Reported.{HaveReported, IsReportAt}
use Rattle.closure.proofs.ReportLemmas.{HaveReported-send, HaveReported-receive, HaveReported-line, AreReports-from_lines}

-- the events of p's line with these indices
abbrev events_at : ℕ → List ℕ → List EventNo
events_at p xs = map (λ i. record { instance = p; index = i }) xs

indices_of : (p : ℕ) (xs : List ℕ) → map (λ (e : EventNo). e.index) (events_at p xs) ≡ xs
indices_of p [] = refl
indices_of p (x ∷ xs) = ap (λ ys. x ∷ ys) (indices_of p xs)

instances_of : (p : ℕ) (xs : List ℕ) → All (λ (e : EventNo). e.instance ≡ p) (events_at p xs)
instances_of p [] = All-nil (λ (e : EventNo). e.instance ≡ p)
instances_of p (x ∷ xs) = All-cons (λ (e : EventNo). e.instance ≡ p) (record { instance = p; index = x }) (events_at p xs) refl (instances_of p xs)

module _ (lines : List LineView) (numbered : IsNumbered lines) (possible : IsPossible (length lines) (chart_lines lines)) where
  abbrev c : Chart
  c = chart_lines lines

  -- each receive has a report
  report_of : (q : ℕ) (r : Place) → IsReceiveFrom c q r → (report : ReportView) × IsReportAt c r report
  report_of q r from =
      let same = fun_ext possible.3 in
      let w = report_exists (length lines) possible.1 possible.0 possible.2 q r (subst (λ d. IsReceiveFrom d q r) (sym same) from) in (
        record { receive = record { instance = r.instance; index = r.index }; earlier = events_at r.instance w.0 },
        ((q, from), refl, record { exact = subst (IsReport c r) (sym (indices_of r.instance w.0)) (subst (λ d. IsReport d r w.0) same w.1); line = instances_of r.instance w.0 }),
      )

  -- the reports can be continued to the end of a line
  line_goes_on : (n p k : ℕ) (reports : List ReportView) → p < length lines → k + n ≡ length (c (suc p)) → HaveReported lines p k reports → (more : List ReportView) × HaveReported lines (suc p) 0 (reports ++ more)
  line_goes_on zero p k reports within e had =
      ([], subst (HaveReported lines (suc p) 0) (sym (append-nil reports)) (HaveReported-line lines p k reports numbered within (omega (arith, e)) had))
  line_goes_on (suc n) p k reports within e had = by (get_or (c (suc p)) k (send_event 0 [])) (slice_get-get_or (c (suc p)) k (send_event 0 []) (omega (arith, e))) (λ rs. line_goes_on n p (k + 1) rs within (omega (arith, e)))
    where
      by : (m : Event) → chart_event c (at (suc p) (suc k)) ≡ Some m → ((rs : List ReportView) → HaveReported lines p (k + 1) rs → (more : List ReportView) × HaveReported lines (suc p) 0 (rs ++ more))
          → (more : List ReportView) × HaveReported lines (suc p) 0 (reports ++ more)
      by (Send to name) is on = on reports (HaveReported-send lines p k reports had (to, (Send to name, is, eq-eqb to to refl)))
      by (Receive from name region) is on =
          let w = report_of from (at (suc p) (suc k)) (Receive from name region, is, eq-eqb from from refl) in
          let rest = on (reports ++ w.0 ∷ []) (HaveReported-receive lines p k reports w.0 had w.1) in
          (w.0 ∷ rest.0, subst (HaveReported lines (suc p) 0) (append_assoc reports (w.0 ∷ []) rest.0) rest.1)

  joined : (reports more : List ReportView) → (rest : List ReportView) × AreReports lines ((reports ++ more) ++ rest) → (all : List ReportView) × AreReports lines (reports ++ all)
  joined reports more (rest, are) = (more ++ rest, subst (AreReports lines) (append_assoc reports more rest) are)

  -- and to the end of the chart
  lines_go_on : (n p : ℕ) (reports : List ReportView) → p + n ≡ length lines → HaveReported lines p 0 reports → (more : List ReportView) × AreReports lines (reports ++ more)
  lines_go_on zero p reports e had = ([], subst (AreReports lines) (sym (append-nil reports)) (AreReports-from_lines lines p reports (omega (arith, e)) had))
  lines_go_on (suc n) p reports e had =
      let line = line_goes_on (length (c (suc p))) p 0 reports (omega (arith, e)) (omega arith) had in
      joined reports line.0 (lines_go_on n (suc p) (reports ++ line.0) (omega (arith, e)) line.1)

  -- from any event on
  pub reports_go_on : (p k : ℕ) (reports : List ReportView) → p < length lines → k ≤ length (c (suc p)) → HaveReported lines p k reports → (more : List ReportView) × AreReports lines (reports ++ more)
  reports_go_on p k reports within inside had =
      let line = line_goes_on (length (c (suc p)) - k) p k reports within (omega arith) had in
      joined reports line.0 (lines_go_on (length lines - suc p) (suc p) (reports ++ line.0) (omega (arith, within)) line.1)
