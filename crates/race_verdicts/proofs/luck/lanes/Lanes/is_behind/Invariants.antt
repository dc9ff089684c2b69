use Rattle.std.proofs.Common.{ℕ}
use Rattle.race_verdicts.specs.Luck.LaneTables.{IsOnLane}
use Rattle.race_verdicts.proofs.LuckLemmas.BehindLemmas.{IsWalking, left_before}
use Rattle.race_verdicts.proofs.luck.lanes.Lanes.is_behind.Given as goal

abbrev pub invariant-sends : goal.invariant-sends
invariant-sends l = (q p : ℕ) → IsOnLane l.self.lines q p l.send → IsWalking l.self l.line l.own l.send q p l.next

abbrev pub decreases-sends : goal.decreases-sends
decreases-sends l = left_before l.next
