use Rattle.std.proofs.Common.{◌≡◌, ◌++◌, map, take}
use Rattle.cmd_explain_file.proofs.explaining.add_overtaking.Given as goal
use Rattle.cmd_explain_file.specs.declared.saying.Saying.TheVariants as sayings

abbrev pub invariant-loop-message : goal.invariant-loop-message
invariant-loop-message l = l.sayings.items ≡ l.initial.sayings.items ++ map sayings.Overtaking (take l.message-index l.overtaking)
