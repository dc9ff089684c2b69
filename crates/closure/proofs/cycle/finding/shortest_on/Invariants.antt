use Rattle.std.proofs.Common.{suc, ◌≤◌, length}
use Rattle.chart.specs.Charts.{chart_lines}
use Rattle.closure.specs.Cycle.Rounds.{IsFoundRound, bound_of, HasNoneOn}
use Rattle.closure.proofs.cycle.finding.shortest_on.Given as goal

abbrev pub invariant-loop-place : goal.invariant-loop-place
invariant-loop-place l = IsFoundRound (chart_lines l.hearing) l.best × (bound_of (length l.hearing) l.best ≤ bound_of (length l.hearing) l.fn.before)
    × HasNoneOn (chart_lines l.hearing) (suc l.line) l.place (bound_of (length l.hearing) l.best)
