use Rattle.std.proofs.Common.{suc, length, arith}
use Rattle.chart.specs.Charts.{chart_lines}
use Rattle.closure.proofs.CycleLemmas.BestLemmas.{lines_next, best_of_all}
use Rattle.closure.proofs.cycle.finding.shortest_round.Goals as goal

pub loop-line-preserved : goal.loop-line-preserved
loop-line-preserved c =
    let d = chart_lines c.args.hearing.now in (
      c.in_ok-best.ensures.found,
      lines_next d (length c.args.hearing.now) c.loop-line.line (λ p. length (d (suc p))) c.loop-line.best c.in_ok-best.best c.in_ok-best.ensures.fewer c.loop-line.invariant.1 c.in_ok-best.ensures.none,
    )

pub returns : goal.returns
returns c = best_of_all c.args.hearing.now c.loop-line.best c.loop-line.invariant.0 (λ p within. c.loop-line.invariant.1 p (omega (arith, within, c.loop-line-test.false, c.len-line-end.ensures.value)))
