use Rattle.log_chart.proofs.CyclesLemmas.SettleLemmas.{freed_set}
use Rattle.log_chart.proofs.cycles.turns.free.Goals as goal

pub returns : goal.returns
returns c = freed_set c.args.number c.args.log.now c.index-log-number.result c.requires c.index-log-number.is
