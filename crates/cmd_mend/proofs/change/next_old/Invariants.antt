use Rattle.std.proofs.Common.{◌≡◌, length}
use Rattle.repair.specs.Growing.{message_of}
use Rattle.cmd_mend.specs.Changes.{old_receives}
use Rattle.cmd_mend.proofs.change.next_old.Given as goal

-- no old receive was passed
abbrev pub invariant-loop-report : goal.invariant-loop-report
invariant-loop-report l = old_receives (message_of l.message) l.reports ≡ old_receives (message_of l.message) l.rest

abbrev pub decreases-loop-report : goal.decreases-loop-report
decreases-loop-report l = length l.rest
