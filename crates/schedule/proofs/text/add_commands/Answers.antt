use Rattle.texts.proofs.Writes.{buffers_more, adds_in}
use Rattle.schedule.specs.WrittenLines.{command_text}
use Rattle.schedule.proofs.text.add_commands.Goals as goal

pub loop-command-preserved : goal.loop-command-preserved
loop-command-preserved g c = buffers_more (command_text c.args.names.now) c.args.commands.now c.loop-command.command-index c.command-item.result c.loop-command-test.true c.loop-command.invariant (rw (← c.command-item.is) c.in_ok-add_command.ensures)

pub returns-in_err-add_command : goal.returns-in_err-add_command
returns-in_err-add_command g c = adds_in (command_text c.args.names.now) c.from_residual.result c.args.commands.now c.loop-command.command-index c.command-item.result c.from_residual.ensures.0 c.loop-command-test.true c.loop-command.invariant (rw (← c.command-item.is) c.in_err-add_command.ensures)
