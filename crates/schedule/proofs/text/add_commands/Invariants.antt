use Rattle.std.proofs.Common.{take}
use Rattle.std.specs.List.{flat_map}
use Rattle.texts.specs.Writing.{Buffers}
use Rattle.schedule.specs.WrittenLines.{command_text}
use Rattle.schedule.proofs.text.add_commands.Given as goal

-- the commands so far were added
abbrev pub invariant-loop-command : goal.invariant-loop-command
invariant-loop-command g l =
    Buffers g.W.Out.sink l.initial.text l.text (flat_map (command_text l.names) (take l.command-index l.commands))
