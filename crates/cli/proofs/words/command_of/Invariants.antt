use Rattle.std.proofs.Common.{take}
use Rattle.cli.specs.Reading.{IsProgram}
use Rattle.cli.specs.Tables.{command, leaf, rules_in}
use Rattle.cli.proofs.words.command_of.Given as goal

abbrev pub invariant-loop-words : goal.invariant-loop-words
invariant-loop-words l = IsProgram l.command (leaf (command l.name (rules_in (take l.words-index l.lists))))
