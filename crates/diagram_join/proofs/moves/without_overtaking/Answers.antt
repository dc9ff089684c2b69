use Rattle.std.proofs.Common.{[], ◌∷◌, refl, ap, ◌++◌}
use Rattle.diagrams.proofs.CrossingLemmas.{none_furthest, furthest_more}
use Rattle.diagram_join.specs.Moves.{staying_from, overtaking_from}
use Rattle.diagram_join.proofs.MoveLemmas.{staying_more, overtaking_more, staying_end, overtaking_end}
use Rattle.diagram_join.proofs.moves.without_overtaking.Goals as goal

pub loop-place-init : goal.loop-place-init
loop-place-init c = (
  none_furthest _ c.in_ok-furthest.ensures,
  ap (λ l. l ++ staying_from [] c.args.messages.now) c.new-stays.ensures.items,
  ap (λ l. l ++ overtaking_from [] c.args.messages.now) c.new-overtakings.ensures.items,
)

pub loop-place-preserved : goal.loop-place-preserved
loop-place-preserved c =
    let are = c.loop-place.invariant.0 in
    let m = c.index-messages-place.result in (
      furthest_more _ _ _ m c.loop-place-test.true c.index-messages-place.is (c.pass.ensures.furthest are),
      staying_more c.args.messages.now _ _ _ _ m c.loop-place-test.true c.index-messages-place.is ((c.in_ok-pass.ensures).stays are) c.loop-place.invariant.1,
      overtaking_more c.args.messages.now _ _ _ _ m c.loop-place-test.true c.index-messages-place.is ((c.in_ok-pass.ensures).overtakings are) c.loop-place.invariant.2,
    )

pub returns-clause-stays : goal.returns-clause-stays
returns-clause-stays c = staying_end c.args.messages.now _ _ _ c.loop-place-test.false c.loop-place.invariant.1

pub returns-clause-overtakings : goal.returns-clause-overtakings
returns-clause-overtakings c = overtaking_end c.args.messages.now _ _ _ c.loop-place-test.false c.loop-place.invariant.2
