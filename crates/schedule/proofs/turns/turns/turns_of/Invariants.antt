use Rattle.std.proofs.Common.{◌≡◌, take}
use Rattle.schedule.specs.Turns.Turns.{turns_of}
use Rattle.schedule.proofs.turns.turns.turns_of.Given as goal

abbrev pub invariant-loop-command : goal.invariant-loop-command
invariant-loop-command l = l.turns.items ≡ turns_of (take l.command-index l.commands) l.notes
