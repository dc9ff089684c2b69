use Rattle.repair.proofs.EndLemmas.{ends_behind, ends_full, ends_other}
use Rattle.std.proofs.Common.{sym, ◌∙◌}
use Rattle.repair.proofs.events.end_behind.Goals as goal

pub returns-else-is_in : goal.returns-else-is_in
returns-else-is_in c =
    let v = c.loop-end.invariant in
    ends_behind c.args.events.now c.args.index c.loop-end.end c.region-region.result c.index-events-index.result c.requires.begun c.requires.within c.index-events-index.is c.region-region.ensures v.0 v.1 v.2
    (ends_other c.args.events.now c.loop-end.end c.region-region.result c.index-events-end.result c.loop-end-test.true c.index-events-end.is (sym c.is_in.ensures ∙ c.if-is_in.false))

pub returns-after-loop-end : goal.returns-after-loop-end
returns-after-loop-end c =
    let v = c.loop-end.invariant in
    ends_behind c.args.events.now c.args.index c.loop-end.end c.region-region.result c.index-events-index.result c.requires.begun c.requires.within c.index-events-index.is c.region-region.ensures v.0 v.1 v.2
    (ends_full c.args.events.now c.loop-end.end c.region-region.result c.loop-end-test.false)
