use Rattle.std.proofs.Common.{length, arith}
use Rattle.chart.specs.Charts.{chart_lines}
use Rattle.schedule_replay.proofs.ReorderedRunsLemmas.Slots.{possible-most, possible-more}
use Rattle.schedule_replay.proofs.reordered_runs.running.least_run.Goals as goal

pub unreachable-requires : goal.unreachable-requires
unreachable-requires c =
    let none = rw c.in-None.is at c.in_ok-steps.ensures in
    none (possible-most (length c.args.chart.now) (chart_lines c.args.chart.now) c.requires)

pub loop-least-preserved : goal.loop-least-preserved
loop-least-preserved c =
    let middle = c.next_try-middle.result in
    let none = rw c.in-None-2.is at c.in_ok-run.ensures in
    record {
      begun = omega arith;
      order = omega arith;
      limit = c.loop-least.invariant.limit;
      chart_run = c.loop-least.invariant.chart_run;
      none = λ k low high possible. none (possible-more (length c.args.chart.now) k middle (chart_lines c.args.chart.now) (omega arith) possible);
    }

pub returns : goal.returns
returns c = record {
  begun = omega arith;
  limit = c.loop-least.invariant.limit;
  chart_run = c.loop-least.invariant.chart_run;
  least = λ k low high. c.loop-least.invariant.none k low (omega arith);
}
