use Rattle.std.proofs.Common.{suc, ◌+◌}
use Rattle.chart.specs.Charts.{at, chart_lines}
use Rattle.closure.specs.Cycle.Fronts.{IsLead}
use Rattle.closure.specs.Cycle.Rounds.{HasNoRound}
use Rattle.closure.proofs.cycle.round.round_through.Given as goal

abbrev pub invariant-loop-before : goal.invariant-loop-before
invariant-loop-before l = IsLead l.hearing (at (suc l.line) (suc l.place)) l.before l.front × HasNoRound (chart_lines l.hearing) (at (suc l.line) (suc l.place)) (l.before + 1)
