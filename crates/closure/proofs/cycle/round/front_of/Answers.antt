use Rattle.std.proofs.Common.{sym, subst, add-one}
use Rattle.closure.specs.Faults.{place_of}
use Rattle.closure.specs.Cycle.Fronts.{IsLead}
use Rattle.closure.proofs.cycle.round.front_of.Goals as goal

pub loop-message-preserved : goal.loop-message-preserved
loop-message-preserved c = subst (λ k. IsLead c.args.hearing.now (place_of c.args.event.now) k c.in_ok-front-2.front) (sym (add-one c.loop-message.message)) (c.in_ok-front-2.ensures (place_of c.args.event.now) c.loop-message.message c.loop-message.invariant)
