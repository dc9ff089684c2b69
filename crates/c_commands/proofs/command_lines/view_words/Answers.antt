use Rattle.std.proofs.Common.{inl, inr}
use Rattle.c_commands.proofs.command_lines.view_words.Goals as goal

pub returns-in-Ok : goal.returns-in-Ok
returns-in-Ok c = inl (_, c.view_request_into.ensures)

pub returns-in-Err : goal.returns-in-Err
returns-in-Err c = inr (c.refusal.result, c.refusal.ensures.words, c.refuse.ensures)
