use Rattle.std.proofs.Common.{◌<◌, ◌∙◌, length, take, refl, sym, arith}
use Rattle.std.proofs.lemmas.List.{take_more_set, length-set}
use Rattle.clock.proofs.DiffLemmas.{up_to_same, up_to_change, base_next, based_push}
use Rattle.clock.proofs.entries.follow.Goals as goal
use Rattle.clock.proofs.entries.follow.Goals.{then-entry-base, else-entry-base}

pub loop-place-preserved : goal.loop-place-preserved
loop-place-preserved c =
    let next = base_next c.args.base.now c.args.entries.now c.loop-place.place (take c.loop-place.count c.loop-place.places) c.loop-place.base c.loop-place-test.true c.requires.same_length c.loop-place.invariant.based c.loop-place.invariant.listed in
    let room : c.loop-place.count < length c.loop-place.places = omega (arith, c.loop-place.invariant.counted, c.loop-place.invariant.long, c.loop-place-test.true, c.requires.places, c.if-entries-gt-INLINE_ENTRIES.false) in
    elim c.if-entry-base.branch [
      | then-entry-base w ↦ rw (w.places-is, w.count-is, w.base-is) (record {
        listed = rw (take_more_set c.loop-place.places c.loop-place.count _ room, w.at_place.ensures)
            (up_to_change _ _ _ _ _ c.loop-place-test.true c.requires.same_length refl (λ e. w.if-entry-base.true (e ∙ sym next)) c.loop-place.invariant.listed);
        based = rw (take_more_set c.loop-place.places c.loop-place.count _ room, w.at_place.ensures) (based_push c.args.base.now _ _ (take c.loop-place.count c.loop-place.places) c.loop-place.base c.loop-place.invariant.based);
        counted = omega (arith, c.loop-place.invariant.counted);
        long = length-set c.loop-place.places c.loop-place.count _ ∙ c.loop-place.invariant.long;
      })
      | else-entry-base w ↦ rw (w.places-is, w.count-is, w.base-is) (record {
        listed = up_to_same _ _ _ _ c.loop-place-test.true c.requires.same_length (w.if-entry-base.false ∙ next) c.loop-place.invariant.listed;
        based = c.loop-place.invariant.based;
        counted = omega (arith, c.loop-place.invariant.counted);
        long = c.loop-place.invariant.long;
      })
    ]
