use Rattle.board_core.proofs.GoodsLemmas.{goods_law}
use Rattle.board_core.proofs.laws.goods_law.Goals as goal

pub returns : goal.returns
returns c = goods_law
