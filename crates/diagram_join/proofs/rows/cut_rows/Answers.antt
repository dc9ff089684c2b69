use Rattle.std.proofs.Common.{refl, ap, ◌++◌, ◌∷◌, []}
use Rattle.diagram_join.specs.Coregions.{cut_from}
use Rattle.diagram_join.proofs.CoregionLemmas.{cut_more, cut_end}
use Rattle.diagram_join.proofs.rows.cut_rows.Goals as goal

pub loop-place-preserved : goal.loop-place-preserved
loop-place-preserved c =
    cut_more c.args.messages.now c.loop-place.place c.loop-place.rows.items _ _ c.index-messages-place.result c.loop-place-test.true c.index-messages-place.is
    (rw (c.in_ok-cut.ensures c.args.messages.now c.in_ok-coregions.ensures refl) at c.in_ok-push.ensures.items) c.loop-place.invariant

pub returns : goal.returns
returns c = cut_end c.args.messages.now c.loop-place.place _ _ c.loop-place-test.false c.loop-place.invariant
