use Rattle.std.proofs.Common.{suc, sym, subst, arith, add-one}
use Rattle.chart.specs.Charts.{chart_lines}
use Rattle.chart_layout.specs.Searching.{IsHighestOf}
use Rattle.chart_layout.proofs.PickLemmas.{highest-next}
use Rattle.chart_layout.proofs.finding.highest.Goals as goal

pub loop-line-preserved : goal.loop-line-preserved
loop-line-preserved c =
    subst (λ k. IsHighestOf (chart_lines c.args.closure.now) k c.args.layout.now c.highest_of-best.result) (sym (add-one c.loop-line.line))
    (subst (IsHighestOf (chart_lines c.args.closure.now) (suc c.loop-line.line) c.args.layout.now) (sym c.highest_of-best.ensures)
    (highest-next (chart_lines c.args.closure.now) c.args.layout.now c.loop-line.line c.loop-line.best c.arrival_on.result c.loop-line.invariant c.arrival_on.ensures))

pub returns : goal.returns
returns c =
    subst (λ k. IsHighestOf (chart_lines c.args.closure.now) k c.args.layout.now c.loop-line.best) (omega (arith, c.loop-line-test.false, c.loop-line.auto.line-end, c.len-line-end.ensures.value)) c.loop-line.invariant
