use Rattle.log_chart.proofs.CyclesLemmas.WalkLemmas.{AreTurns}
use Rattle.log_chart.proofs.cycles.turns.free_along.Given as goal

abbrev pub invariant-loop-place : goal.invariant-loop-place
invariant-loop-place l = AreTurns l.fn.log l.log l.first l.others.items l.sources.above.items l.sources.sends.items l.left.first.items l.left.next.items l.pasts.items l.place
