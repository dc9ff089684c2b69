use Rattle.diagram_join.specs.Turns.Turns.{moments_of}
use Rattle.diagram_join.proofs.TurnsLemmas.SendLemmas.{flat_more}
use Rattle.diagram_join.proofs.turns.moments.all_moments.Goals as goal

pub loop-message-preserved : goal.loop-message-preserved
loop-message-preserved c =
    flat_more (moments_of c.args.messages.now) _ _ c.args.messages.now c.loop-message.message-index _ c.loop-message-test.true c.message-item.is (c.in_ok-add_moments.ensures c.args.messages.now c.in_ok-sends.ensures) c.loop-message.invariant
