use Rattle.std.proofs.Common.{inl, inr, sym, subst, arith}
use Rattle.std.proofs.lemmas.Bool.{cases_eq}
use Rattle.chart.specs.Charts.{chart_lines}
use Rattle.chart_layout.specs.Ways.{HasNoWay}
use Rattle.chart_layout.proofs.finding.row_by.Goals as goal

pub loop-line-preserved : goal.loop-line-preserved
loop-line-preserved c =
    λ p less. elim (cases_eq p c.loop-line.line) [
      | inl last ↦ subst (λ q. HasNoWay (chart_lines c.args.closure.now) c.args.layout.now c.args.way q) (sym last) c.in_default-row_on.ensures
      | inr other ↦ c.loop-line.invariant p (omega (arith, less, other))
    ]

pub returns-in-Some-row_on : goal.returns-in-Some-row_on
returns-in-Some-row_on c = (
  c.in-Some-row_on.ensures.0,
  inr (λ p before. elim before [
    | inl hint ↦ subst (λ q. HasNoWay (chart_lines c.args.closure.now) c.args.layout.now c.args.way q) (omega (arith, hint)) c.in_default.ensures
    | inr less ↦ c.loop-line.invariant p (omega (arith, less, c.in-Some-row_on.ensures.1))
  ]),
)
