use Rattle.std.proofs.Common.{rules}
use Rattle.std.proofs.lemmas.Iterator.{YieldsList-from_slice, YieldsList-from_map_by}
use Rattle.std.proofs.lemmas.Iterator.Consumers.{map_from_collect}
use Rattle.diagram_join.specs.Joins.{join_view}
use Rattle.mscview_requests.specs.Words.Joins.{join_word_view}
use Rattle.mscview_requests.proofs.words.joins.joins_of.Goals as goal

pub returns : goal.returns
returns c = map_from_collect c.collect.result c.collect.ensures.ran (YieldsList-from_map_by _ join_view join_word_view (YieldsList-from_slice c.args.words.now cc) c.map.ensures.closure (λ x r q k. search rules))
