use Rattle.log_chart.proofs.CyclesLemmas.FirstLemmas.{HasGone}
use Rattle.log_chart.proofs.cycles.first.soonest_of_host.Given as goal

abbrev pub invariant-loop-line : goal.invariant-loop-line
invariant-loop-line l = HasGone l.lines l.count l.sources.above.items l.sources.sends.items l.host l.line-index l.past.seen.items l.past.stack.items l.fn.found l.soonest
