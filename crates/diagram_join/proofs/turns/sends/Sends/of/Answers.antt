use Rattle.diagram_join.proofs.TurnsLemmas.SendLemmas.{sends_more}
use Rattle.diagram_join.proofs.turns.sends.Sends.of.Goals as goal

pub loop-message-preserved : goal.loop-message-preserved
loop-message-preserved c =
    sends_more c.loop-message.spots.entries c.put_spot.new.map.entries c.args.messages.now c.loop-message.message-index _ c.loop-message-test.true c.message-item.is c.in_ok-put_spot.ensures c.loop-message.invariant
