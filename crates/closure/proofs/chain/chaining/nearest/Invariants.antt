use Rattle.closure.specs.Faults.{place_of}
use Rattle.closure.specs.Chain.Reaching.{IsNearest}
use Rattle.closure.proofs.chain.chaining.nearest.Given as goal

abbrev pub invariant-loop-number : goal.invariant-loop-number
invariant-loop-number l = IsNearest l.found (place_of l.event) l.number l.best
