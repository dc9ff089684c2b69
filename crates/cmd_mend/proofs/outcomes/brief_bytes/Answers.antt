use Rattle.std.proofs.Common.{sym, subst}
use Rattle.repair.specs.Repairs.{AreFew}
use Rattle.repair.proofs.CountLemmas.{few_reports}
use Rattle.cmd_mend.proofs.outcomes.brief_bytes.Goals as goal

pub brief_of-requires-clause-olds : goal.brief_of-requires-clause-olds
brief_of-requires-clause-olds c = subst AreFew (sym c.as_slice.ensures.value) (few_reports c.args.closure.now c.in_ok-olds.olds.items c.len.ensures.possible.chart c.in_ok-olds.ensures)

pub brief_of-requires-clause-news : goal.brief_of-requires-clause-news
brief_of-requires-clause-news c = few_reports c.args.chart.now c.args.news.now c.lines.ensures.chart c.requires
