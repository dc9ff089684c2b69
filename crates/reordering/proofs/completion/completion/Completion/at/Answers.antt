use Rattle.std.proofs.Common.{◌≡◌, ◌<◌, suc, List, length, Some, subst, sym, ap, ◌∙◌, arith}
use Rattle.std.specs.Prelude.{slice_get}
use Rattle.std.proofs.lemmas.Option.{slice_get-get_or}
use Rattle.chart.specs.Charts.{chart_lines, LineView}
use Rattle.closure.specs.Closures.{IsPossibleChart}
use Rattle.reordering.specs.declared.completion.last_sends.LastSends.{LastSends}
use Rattle.reordering.specs.Completion.Tables.{AreLastSends, HaveLastSends}
use Rattle.reordering.proofs.completion.completion.Completion.at.Goals as goal

pub returns-clause-value : goal.returns-clause-value
returns-clause-value c =
    let lines : List LineView = c.self.inside.closure.now in
    let rows : List (List LastSends) = c.self.inside.rows.items in
    let kept : HaveLastSends lines rows × IsPossibleChart lines = c.self.invariant in
    let row : List LastSends = c.index.result.now in
    let same : lines ≡ c.args.self.now = c.self.view_is in
    let within : c.args.line < length rows = omega (arith, kept.0.whole, c.requires.line, ap length same) in
    let there : slice_get rows c.args.line ≡ Some row = slice_get-get_or rows c.args.line row within ∙ ap (λ x. Some x) (sym c.index.ensures) in
    subst (λ (xs : List LineView). AreLastSends (chart_lines xs (suc c.args.line)) c.args.place c.at.result) same ((kept.0.each c.args.line row there).right c.args.place c.at.result c.at.ensures)
