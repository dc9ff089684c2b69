use Rattle.std.proofs.Common.{◌≡◌, ◌++◌, map, take}
use Rattle.cmd_explain_file.proofs.explaining.add_steps.Given as goal
use Rattle.cmd_explain_file.specs.declared.saying.Saying.TheVariants as sayings

abbrev pub invariant-loop-step : goal.invariant-loop-step
invariant-loop-step l = l.sayings.items ≡ l.initial.sayings.items ++ map sayings.Step (take l.step-index l.steps)
