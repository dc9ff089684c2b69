use Rattle.log_chart.proofs.CyclesLemmas.FirstLemmas.{HaveGone}
use Rattle.log_chart.proofs.cycles.first.first_on_cycle.Given as goal

abbrev pub invariant-loop-place : goal.invariant-loop-place
invariant-loop-place l = HaveGone l.lines l.place l.found
