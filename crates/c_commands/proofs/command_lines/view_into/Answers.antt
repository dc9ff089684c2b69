use Rattle.std.proofs.Common.{inr}
use Rattle.c_commands.proofs.command_lines.view_into.Goals as goal

pub returns-in-Err : goal.returns-in-Err
returns-in-Err c = inr (c.in-Err.error, c.in-Err.ensures.refused, c.refuse.ensures)
