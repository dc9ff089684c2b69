use Rattle.repair.proofs.BestLemmas.{found_ok}
use Rattle.repair.proofs.adding.best_of.Goals as goal

pub returns : goal.returns
returns c = found_ok c.args.counted.now c.args.chart.now c.in_ok-closure.closure c.lines.result.now c.in_ok-name.name c.in_ok-those.those.items c.as_slice.result.now c.in_ok-pairs.pairs.items c.as_slice-2.result.now c.best_among.result c.in_ok-closure.ensures c.lines.ensures.value c.in_ok-name.ensures c.in_ok-those.ensures c.as_slice.ensures.value c.in_ok-pairs.ensures c.as_slice-2.ensures.value c.best_among.ensures
