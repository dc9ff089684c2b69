use Rattle.std.proofs.Common.{◌∙◌, map}
use Rattle.race_verdicts.specs.Luck.TakingTables.{IsOfLine}
use Rattle.race_verdicts.proofs.LuckLemmas.TableLemmas.{first_none, none_whole}
use Rattle.race_verdicts.proofs.LuckLemmas.TakingLemmas.{placed_more, placed_all}
use Rattle.race_verdicts.specs.Recordings.{taken_view}
use Rattle.race_verdicts.proofs.luck.taking.places_of.Goals as goal

pub loop-place-init : goal.loop-place-init
loop-place-init c = record {
  whole = none_whole c.args.count _ c.in_ok-places.ensures;
  each = first_none (IsOfLine (map taken_view c.args.taken.now)) c.args.count _ c.in_ok-places.ensures;
}

pub loop-place-preserved : goal.loop-place-preserved
loop-place-preserved c = record {
  whole = c.note.ensures.whole ∙ c.loop-place.invariant.whole;
  each = placed_more c.args.taken.now c.args.count c.loop-place.place c.loop-place.places c.note.new.self _ c.loop-place-test.true c.loop-place.invariant.whole c.note.ensures c.loop-place.invariant.each;
}

pub returns : goal.returns
returns c = placed_all c.args.taken.now c.args.count c.loop-place.place c.loop-place.places c.loop-place-test.false c.loop-place.invariant.whole c.loop-place.invariant.each
