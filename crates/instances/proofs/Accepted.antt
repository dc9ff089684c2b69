-- The result of a whole board is a possible chart with its reports.
use Rattle.std.proofs.Common.{◌≡◌, List, [], ◌∷◌, length, refl, sym, ap, ◌∙◌, subst}
use Rattle.chart.specs.Charts.{Chart, IsPossible, chart_lines}
use Rattle.chart.specs.Histories.{chart_of}
use Rattle.chart.specs.Reports.{AreReports}
use Rattle.chart.proofs.HistoryLines.{chart-is, length-history_lines}
use Rattle.board.specs.declared.gathering.Gathered.{Gathered}
use Rattle.board.specs.Views.{PostView}
use Rattle.board.specs.Gathering.{IsWhole}
use Rattle.instances.specs.Laws.{IsAccepted, GatheredLaw}

pub gathered-law : GatheredLaw
gathered-law [] it whole = absurd whole.all
gathered-law (post ∷ posts) it whole =
    let legal = (whole.joint 0 post refl).legal in
    let n = post.board.size in
    let chart : chart_of whole.history ≡ chart_lines it.chart = chart-is n post.board.capacity whole.history legal ∙ ap chart_lines (sym whole.gathered.chart) in
    let long : n ≡ length it.chart = sym (ap length whole.gathered.chart ∙ length-history_lines n whole.history) in
    record {
      possible = subst (λ m. IsPossible m (chart_lines it.chart)) long (whole.history, post.board.capacity, legal, λ p. ap (λ (c : Chart). c p) chart);
      reports = subst (λ lines. AreReports lines it.reports.items) (sym whole.gathered.chart) whole.gathered.reports;
    }
