-- A chart has only one list of reports.
use Rattle.std.proofs.Common.{◌≡◌, ◌⊎◌, inl, inr, List, length, sym, ap, ◌∙◌}
use Rattle.std.specs.Prelude.{slice_get}
use Rattle.chart.specs.Charts.{LineView, IsPossible, chart_lines}
use Rattle.chart.specs.Reports.{ReportView, AreReports}
use Rattle.chart.proofs.ReportLists.{same_reports}
use Rattle.closure.specs.declared.error.ChartError.TheVariants.{Memory}
use Rattle.closure.specs.declared.error.AuditError.{AuditError}
use Rattle.closure.specs.declared.error.AuditError.TheVariants.{Chart as OfChart, WrongReport}
use Rattle.closure.specs.Audits.{RefusesReports}
use Rattle.closure.proofs.Impossible.{impossible}

-- a chart has only one list of reports
pub one_list : (lines : List LineView) (xs ys : List ReportView) → AreReports lines xs → AreReports lines ys → xs ≡ ys
one_list lines xs ys a b = same_reports (chart_lines lines) xs ys (a.are.receives ∙ sym b.are.receives) a.are.each b.are.each

-- so a list that is refused, except for memory, is not the list of a possible chart
pub refused_rightly : (lines : List LineView) (given : List ReportView) (e : AuditError) → RefusesReports lines given e → (e ≡ OfChart Memory) ⊎ (IsPossible (length lines) (chart_lines lines) → AreReports lines given → ⊥)
refused_rightly lines given (OfChart e) refuses =
    elim (impossible (length lines) (chart_lines lines) e refuses) [
      | inl memory ↦ inl (ap (λ x. OfChart x) memory)
      | inr never ↦ inr (λ possible are. never possible)
    ]
refused_rightly lines given (WrongReport r) (possible, (right, are_right, wrong)) =
    inr (λ also are. wrong.differs (ap (λ xs. slice_get xs wrong.place) (one_list lines given right are are_right)))
