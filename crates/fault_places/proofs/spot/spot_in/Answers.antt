use Rattle.std.proofs.Common.{sym, ◌∙◌, arith}
use Rattle.fault_places.proofs.SpotLemmas.{spot_goes}
use Rattle.fault_places.proofs.spot.spot_in.Goals as goal

pub words-preserved : goal.words-preserved
words-preserved c =
    let more = rw c.in-Some-more.is at c.cut_word.ensures.words in
    let lengths = rw c.in-Some-more.is at c.cut_word.ensures.lengths in
    let goes = spot_goes c.args.cause _ _ c.words.want c.in-Some.behind c.words.index c.words.place _ _ c.in-Some-more.more.now more
    (sym c.is_wrong.ensures ∙ c.if-is_wrong.false) (sym c.in-Some.ensures) in
    record {
      spot = sym goes ∙ c.words.invariant.spot;
      within = omega (arith, lengths);
      index = omega arith;
    }
