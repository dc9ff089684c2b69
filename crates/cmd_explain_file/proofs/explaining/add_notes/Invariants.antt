use Rattle.std.proofs.Common.{◌≡◌, ◌++◌, map, take}
use Rattle.cmd_explain_file.proofs.explaining.add_notes.Given as goal
use Rattle.cmd_explain_file.specs.declared.saying.Saying.TheVariants as sayings

abbrev pub invariant-loop-noted : goal.invariant-loop-noted
invariant-loop-noted l = l.sayings.items ≡ l.initial.sayings.items ++ map sayings.Note (take l.noted-index l.notes)
