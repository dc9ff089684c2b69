-- A run has only one outcome.
use Rattle.std.proofs.Common.{◌≡◌, ℕ, List, sym, ap, ◌∙◌}
use Rattle.chart.specs.Charts.{LineView}
use Rattle.chart.specs.Reports.{ReportView}
use Rattle.schedule.specs.declared.command.Note.{Note}
use Rattle.schedule.specs.Outcomes.Outcomes.{OutcomeView}
use Rattle.schedule.proofs.OutcomesLemmas.ByLine.{same_by_line}
use Rattle.schedule_threads.specs.Laws.{OneRunOutcomeLaw}
use Rattle.schedule_threads.specs.RunOutcomes.{RunView}

abbrev with_these : List (List ℕ) → List LineView → List ReportView → List Note → List (List ℕ) → RunView
with_these names chart reports notes spent =
    let outcome : OutcomeView = record { names = names; chart = chart; reports = reports; notes = notes } in
    record { outcome = outcome; spent = spent }

pub one_run_outcome : OneRunOutcomeLaw
one_run_outcome plan run a b one other =
    let names : a.outcome.names ≡ b.outcome.names = one.names ∙ sym other.names in
    let chart : a.outcome.chart ≡ b.outcome.chart = one.chart ∙ sym other.chart in
    let reports : a.outcome.reports ≡ b.outcome.reports = one.reports ∙ sym other.reports in
    let notes : a.outcome.notes ≡ b.outcome.notes =
    same_by_line a.outcome.notes b.outcome.notes one.notes.rising other.notes.rising (λ line. one.notes.same line ∙ sym (other.notes.same line)) in
    let spent : a.spent ≡ b.spent = one.spent ∙ sym other.spent in
    ap (λ x. with_these x a.outcome.chart a.outcome.reports a.outcome.notes a.spent) names ∙ ap (λ x. with_these b.outcome.names x a.outcome.reports a.outcome.notes a.spent) chart
    ∙ ap (λ x. with_these b.outcome.names b.outcome.chart x a.outcome.notes a.spent) reports ∙ ap (λ x. with_these b.outcome.names b.outcome.chart b.outcome.reports x a.spent) notes
    ∙ ap (λ x. with_these b.outcome.names b.outcome.chart b.outcome.reports b.outcome.notes x) spent
