use Rattle.race_verdicts.proofs.LuckLemmas.MarkLemmas.{are_lines}
use Rattle.race_verdicts.proofs.luck.order.Order.of.Goals as goal

pub sources_of-requires : goal.sources_of-requires
sources_of-requires c = are_lines c.args.lines.now c.requires.log
