use Rattle.std.proofs.Common.{◌≡◌, ◌++◌, drop}
use Rattle.repair.specs.Growing.{message_of}
use Rattle.cmd_mend.specs.Changes.{all_gone, old_receives}
use Rattle.cmd_mend.proofs.change.all_gone.Given as goal

-- what was found so far, and what the others come to, is all of it
abbrev pub invariant-loop-report : goal.invariant-loop-report
invariant-loop-report l =
    l.gone.items ++ all_gone (message_of l.message) (drop l.report-index l.olds) (old_receives (message_of l.message) l.rest)
    ≡ all_gone (message_of l.message) l.olds (old_receives (message_of l.message) l.news)
