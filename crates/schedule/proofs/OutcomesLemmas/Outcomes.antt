-- A plan has only one outcome.
use Rattle.std.proofs.Common.{◌≡◌, ℕ, List, length, sym, ap, ◌∙◌, subst}
use Rattle.chart.specs.Charts.{Chart, LineView, IsPossible, chart_lines}
use Rattle.chart.specs.Histories.{chart_of}
use Rattle.chart.specs.Reports.{ReportView, AreReports}
use Rattle.chart.proofs.ReportLists.{same_reports}
use Rattle.schedule.specs.declared.command.Note.{Note}
use Rattle.schedule.specs.Plans.{Plan}
use Rattle.schedule.specs.Meaning.{meaning}
use Rattle.schedule.proofs.Legal.{legal}
use Rattle.schedule.specs.Outcomes.Outcomes.{OutcomeView, IsOutcome, PossibleOutcomeLaw}
use Rattle.schedule.proofs.OutcomesLemmas.ByLine.{same_by_line}
use Rattle.chart.proofs.HistoryLines.{chart-is}

abbrev with_these : List (List ℕ) → List LineView → List ReportView → List Note → OutcomeView
with_these names chart reports notes = record { names = names; chart = chart; reports = reports; notes = notes }

pub one_outcome : (plan : Plan) (a b : OutcomeView) → IsOutcome plan a → IsOutcome plan b → a ≡ b
one_outcome plan a b one other =
    let names : a.names ≡ b.names = one.names ∙ sym other.names in
    let chart : a.chart ≡ b.chart = one.chart ∙ sym other.chart in
    let notes : a.notes ≡ b.notes = same_by_line a.notes b.notes one.notes.rising other.notes.rising (λ line. one.notes.same line ∙ sym (other.notes.same line)) in
    let others = subst (λ c. AreReports c b.reports) (sym chart) other.reports in
    let reports : a.reports ≡ b.reports = same_reports (chart_lines a.chart) a.reports b.reports (one.reports.are.receives ∙ sym others.are.receives) one.reports.are.each others.are.each in
    ap (λ x. with_these x a.chart a.reports a.notes) names ∙ ap (λ x. with_these b.names x a.reports a.notes) chart ∙ ap (λ x. with_these b.names b.chart x a.notes) reports ∙ ap (λ x. with_these b.names b.chart b.reports x) notes

pub possible_outcome : PossibleOutcomeLaw
possible_outcome plan o keeps numbered it =
    let history = (meaning plan).run.history in
    let is_legal = legal plan keeps numbered in
    let chart : chart_of history ≡ chart_lines o.chart = chart-is (length plan.names) plan.capacity history is_legal ∙ ap chart_lines (sym it.chart) in
    subst (λ n. IsPossible n (chart_lines o.chart)) (ap length (sym it.names)) (history, plan.capacity, is_legal, λ p. ap (λ (c : Chart). c p) chart)
