use Rattle.std.proofs.Common.{◌≡◌, [], take, drop}
use Rattle.diagrams.specs.Crossing.{fault_from}
use Rattle.diagrams.specs.Ends.{AreFurthest}
use Rattle.diagrams.proofs.crossing.first_fault.Given as goal

abbrev pub invariant-loop-place : goal.invariant-loop-place
invariant-loop-place l = AreFurthest l.furthest (take l.place l.messages)
    × (fault_from l.first (take l.place l.messages) (drop l.place l.messages) ≡ fault_from l.fn.fault [] l.messages)
