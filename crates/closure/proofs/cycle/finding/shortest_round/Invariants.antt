use Rattle.std.proofs.Common.{ℕ, suc, ◌<◌, length}
use Rattle.chart.specs.Charts.{chart_lines}
use Rattle.closure.specs.Cycle.Rounds.{IsFoundRound, bound_of, HasNoneOn}
use Rattle.closure.proofs.cycle.finding.shortest_round.Given as goal

abbrev pub invariant-loop-line : goal.invariant-loop-line
invariant-loop-line l = IsFoundRound (chart_lines l.hearing) l.best
    × ((p : ℕ) → p < l.line → HasNoneOn (chart_lines l.hearing) (suc p) (length (chart_lines l.hearing (suc p))) (bound_of (length l.hearing) l.best))
