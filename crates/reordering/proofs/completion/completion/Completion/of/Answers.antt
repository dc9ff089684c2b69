use Rattle.std.proofs.Common.{◌≡◌, arith, ℕ, suc, ◌+◌, List, Some, sym, ap, ◌∙◌, subst}
use Rattle.std.proofs.lemmas.List.{length_push}
use Rattle.chart.specs.declared.event.Event.{Event}
use Rattle.std.specs.Prelude.{slice_get}
use Rattle.chart.specs.Charts.{chart_lines, LineView}
use Rattle.chart.proofs.Places.{each-push}
use Rattle.reordering.specs.declared.completion.last_sends.LastSends.{LastSends}
use Rattle.reordering.specs.Completion.Tables.{IsRowOf}
use Rattle.reordering.proofs.completion.completion.Completion.of.Goals as goal

pub loop-line-preserved : goal.loop-line-preserved
loop-line-preserved c =
    let lines = c.lines-lines.result.now in
    let old = c.loop-line.invariant in
    let rows : List (List LastSends) = c.loop-line.rows.items in
    let row : List LastSends = c.in_ok-row.row in
    let its : IsRowOf (chart_lines lines (suc c.loop-line.line)) row = subst (λ (l : List Event). IsRowOf l row) c.line_at.ensures.events c.in_ok-row.ensures in (
      rw c.in_ok-push.ensures.items (length_push rows row ∙ ap (λ k. k + 1) old.0),
      rw c.in_ok-push.ensures.items (each-push (λ p (x : List LastSends). IsRowOf (chart_lines lines (suc p)) x) rows row old.1 (subst (λ p. IsRowOf (chart_lines lines (suc p)) row) (sym old.0) its)),
    )

pub invariant_of-result : goal.invariant_of-result
invariant_of-result c =
    let old = c.loop-line.invariant in
    let rows : List (List LastSends) = c.loop-line.rows.items in (
      record {
        whole = omega (arith, old.0, c.loop-line-test.false, c.len-instances.ensures.value);
        each = subst (λ (xs : List LineView). (p : ℕ) (row : List LastSends) → slice_get rows p ≡ Some row → IsRowOf (chart_lines xs (suc p)) row) c.lines-lines.ensures old.1;
      },
      c.len-instances.ensures.possible,
    )
