use Rattle.race_verdicts.specs.Luck.LaneTables.{AreAboveSoFar}
use Rattle.race_verdicts.proofs.luck.lanes.above_of.Given as goal

abbrev pub invariant-loop-number : goal.invariant-loop-number
invariant-loop-number l = AreAboveSoFar l.lines l.number l.above l.last
