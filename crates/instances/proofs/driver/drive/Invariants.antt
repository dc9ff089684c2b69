use Rattle.std.proofs.Common.{◌≡◌}
use Rattle.instances.specs.Driving.{meaning}
use Rattle.instances.specs.Traces.{turns_of}
use Rattle.instances.proofs.Running.{HasRun}
use Rattle.instances.proofs.driver.drive.Given as goal

-- the behaviour is as its turns so far left it
abbrev pub invariant-loop-turn : goal.invariant-loop-turn
invariant-loop-turn g l =
    let does = goal.Behaviour-dyn g l.fn.behaviour.now in
    (state : _) × (l.behaviour.now ≡ (l.fn.behaviour.now.0, state))
    × HasRun (meaning does.act does.after) l.fn.behaviour.now.1 l.fn.mailbox (turns_of l.stretches.items) l.turn
    (record { state = state; last = l.last; view = l.mailbox })
