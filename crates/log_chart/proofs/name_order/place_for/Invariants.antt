use Rattle.log_chart.proofs.NameOrderLemmas.{IsBehind}
use Rattle.log_chart.proofs.name_order.place_for.Given as goal

abbrev pub invariant-loop-place : goal.invariant-loop-place
invariant-loop-place l = IsBehind l.hosts l.host l.place
