use Rattle.std.proofs.Common.{◌≡◌, ◌++◌, map, take}
use Rattle.cmd_explain_file.proofs.explaining.add_left_out.Given as goal
use Rattle.cmd_explain_file.specs.declared.saying.Saying.TheVariants as sayings

abbrev pub invariant-loop-kind : goal.invariant-loop-kind
invariant-loop-kind l = l.sayings.items ≡ l.initial.sayings.items ++ map sayings.LeftOut (take l.kind-index l.left_out)
