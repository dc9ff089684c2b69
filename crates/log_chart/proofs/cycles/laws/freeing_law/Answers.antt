use Rattle.log_chart.proofs.CyclesLemmas.HandedLemmas.{same_first, none_moved, none_back}
use Rattle.log_chart.proofs.cycles.laws.freeing_law.Goals as goal

pub returns : goal.returns
returns c = λ place_of host_of lines others handed. (
  same_first place_of host_of lines others handed,
  none_moved place_of host_of lines others handed,
  none_back place_of host_of lines others handed,
)
