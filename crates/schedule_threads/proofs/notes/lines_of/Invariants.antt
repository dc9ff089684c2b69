use Rattle.std.proofs.Common.{◌≡◌, take}
use Rattle.schedule_threads.specs.RunNotes.{lines_of}
use Rattle.schedule_threads.proofs.notes.lines_of.Given as goal

-- the lines so far
abbrev pub invariant-loop-command : goal.invariant-loop-command
invariant-loop-command l = l.lines.items ≡ lines_of (take l.command-index l.commands) l.actor
