use Rattle.std.proofs.Common.{◌≡◌, length, subst, arith}
use Rattle.closure.specs.Faults.{place_of}
use Rattle.closure.specs.Chain.Reaching.{IsNearest}
use Rattle.closure.proofs.chain.chaining.nearest.Goals as goal

pub steps_by-requires : goal.steps_by-requires
steps_by-requires c =
    let low = (c.requires.trail.2.each c.loop-number.number c.reached_at-reached.result c.reached_at-reached.ensures).low in
    omega (arith, low, c.requires.short, c.loop-number-test.true)

pub loop-number-preserved : goal.loop-number-preserved
loop-number-preserved c = c.better-best.ensures c.args.found.now c.reached_at-reached.result (place_of c.args.event.now) c.reached_at-reached.ensures c.steps_by.ensures c.loop-number.invariant

pub returns : goal.returns
returns c =
    let all : c.loop-number.number ≡ length c.args.found.now = omega (arith, c.loop-number-test.false, c.loop-number.auto.number-end) in
    subst (λ many. IsNearest c.args.found.now (place_of c.args.event.now) many c.loop-number.best) all c.loop-number.invariant
