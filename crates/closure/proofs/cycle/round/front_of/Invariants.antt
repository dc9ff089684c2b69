use Rattle.closure.specs.Faults.{place_of}
use Rattle.closure.specs.Cycle.Fronts.{IsLead}
use Rattle.closure.proofs.cycle.round.front_of.Given as goal

abbrev pub invariant-loop-message : goal.invariant-loop-message
invariant-loop-message l = IsLead l.hearing (place_of l.event) l.message l.front
