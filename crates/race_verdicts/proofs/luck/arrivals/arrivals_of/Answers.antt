use Rattle.std.proofs.Common.{arith}
use Rattle.race_verdicts.proofs.LuckLemmas.ArrivalLemmas.{arrived_none, arrived_pass, arrived_put, arrived_all}
use Rattle.race_verdicts.proofs.luck.arrivals.arrivals_of.Goals as goal
use Rattle.race_verdicts.proofs.luck.arrivals.arrivals_of.Goals.{in-Some, in_default}

pub loop-place-init : goal.loop-place-init
loop-place-init c = record { waiting = c.requires.waiting; found = arrived_none c.args.lines.now c.args.arrivals.now _ _ c.in_ok-found.ensures.sent c.in_ok-found.ensures.begun }

pub loop-place-preserved : goal.loop-place-preserved
loop-place-preserved c =
    let lines = c.args.lines.now in
    let arrivals = c.args.arrivals.now in
    let i = c.loop-place.place in
    elim c.match-message_arrived.branch [
      | in-Some w ↦
          rw w.found-is record {
            waiting = c.message_arrived.ensures.waiting;
            found = arrived_put lines arrivals i c.loop-place.found.sent c.loop-place.found.begun c.loop-place.invariant.found w.in-Some.message _ _ w.in-Some.ensures.message.0 w.note.ensures;
          }
      | in_default w ↦
          rw w.found-is record {
            waiting = c.message_arrived.ensures.waiting;
            found = arrived_pass lines arrivals i c.loop-place.found.sent c.loop-place.found.begun c.loop-place.invariant.found w.in_default.ensures.message;
          }
    ]

pub returns : goal.returns
returns c = arrived_all c.args.lines.now c.args.arrivals.now c.loop-place.place _ _ (omega arith) c.loop-place.invariant.found
