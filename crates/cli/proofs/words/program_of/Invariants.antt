use Rattle.std.proofs.Common.{take}
use Rattle.cli.specs.Reading.{IsProgram}
use Rattle.cli.specs.Tables.{commands_by, program}
use Rattle.cli.proofs.words.program_of.Given as goal

abbrev pub invariant-loop-name : goal.invariant-loop-name
invariant-loop-name l = IsProgram l.program (program l.fn.name (commands_by (take l.name-index l.commands)))
