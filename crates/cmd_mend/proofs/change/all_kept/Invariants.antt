use Rattle.std.proofs.Common.{◌≡◌, take, map}
use Rattle.repair.specs.Growing.{message_of}
use Rattle.cmd_mend.specs.Changes.{kept_of}
use Rattle.cmd_mend.proofs.change.all_kept.Given as goal

abbrev pub invariant-loop-report : goal.invariant-loop-report
invariant-loop-report l = l.kept.items ≡ map (kept_of l.coming (message_of l.message)) (take l.report-index l.news)
