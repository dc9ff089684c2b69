use Rattle.std.proofs.Common.{sym, ◌∙◌, arith}
use Rattle.closure.proofs.CycleLemmas.PassLemmas.{in_turn}
use Rattle.closure.proofs.cycle.receiving.receive_in_turn.Goals as goal

pub returns-then-left-eq0 : goal.returns-then-left-eq0
returns-then-left-eq0 c = in_turn c.args.events.now c.args.sender c.loop-place.place c.loop-place.left c.args.turn c.index-events-place.result (omega (arith, c.loop-place-test.true, c.loop-place.auto.place-end)) c.index-events-place.is (sym c.is_receive_from.ensures ∙ c.if-is_receive_from.true) (omega (arith, c.if-left-eq0.true, c.loop-place.invariant.0)) c.loop-place.invariant.1
