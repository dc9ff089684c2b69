use Rattle.log_chart.proofs.CyclesLemmas.SourceLemmas.{AreFilled}
use Rattle.log_chart.proofs.cycles.sources.sources_of.Given as goal

abbrev pub invariant-loop-line : goal.invariant-loop-line
invariant-loop-line l = AreFilled l.lines l.count l.line-index l.above.items l.sends.items l.last.items
