use Rattle.std.proofs.Common.{rules}
use Rattle.std.proofs.lemmas.Iterator.{YieldsList-from_slice, YieldsList-from_map_by}
use Rattle.std.proofs.lemmas.Iterator.Consumers.{map_from_collect}
use Rattle.mscview_requests.specs.FileBytes.{bytes_of}
use Rattle.mscview_requests.proofs.recorded.slices_of.Goals as goal

pub returns : goal.returns
returns c = map_from_collect c.collect.result c.collect.ensures.ran (YieldsList-from_map_by _ (λ r. r.now) bytes_of (YieldsList-from_slice c.args.texts.now cc) c.map.ensures.closure (λ x r q k. search rules))
