use Rattle.std.proofs.Common.{length, below_more}
use Rattle.chart.specs.Charts.{chart_lines}
use Rattle.closure.specs.Runs.{IsStopped}
use Rattle.closure.proofs.running.ready_line.Goals as goal

pub loop-line-preserved : goal.loop-line-preserved
loop-line-preserved c = below_more (λ p. IsStopped (chart_lines c.args.linked.now) (length c.args.linked.now) c.args.made.now p) c.loop-line.line c.loop-line.invariant c.if-is_ready-2.ensures
