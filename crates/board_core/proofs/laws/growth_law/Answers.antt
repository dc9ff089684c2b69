use Rattle.board_core.proofs.GoodsLemmas.{goods_grow, others_law, clock_growth, report_growth}
use Rattle.board_core.proofs.laws.growth_law.Goals as goal

pub returns-clause-goods : goal.returns-clause-goods
returns-clause-goods c = goods_grow

pub returns-clause-others : goal.returns-clause-others
returns-clause-others c = others_law

pub returns-clause-clocks : goal.returns-clause-clocks
returns-clause-clocks c = clock_growth

pub returns-clause-reports : goal.returns-clause-reports
returns-clause-reports c = report_growth
