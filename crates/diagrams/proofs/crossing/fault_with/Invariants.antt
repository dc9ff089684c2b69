use Rattle.std.proofs.Common.{◌≡◌, drop}
use Rattle.diagrams.specs.Crossing.{fault_with}
use Rattle.diagrams.proofs.crossing.fault_with.Given as goal

abbrev pub invariant-loop-other : goal.invariant-loop-other
invariant-loop-other l = fault_with l.first l.message (drop l.other-index l.earlier) ≡ fault_with l.fn.fault l.message l.earlier
