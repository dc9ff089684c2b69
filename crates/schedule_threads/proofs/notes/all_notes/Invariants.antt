use Rattle.std.proofs.Common.{◌≡◌, ◌+◌, ◌++◌, false, take, drop}
use Rattle.std.specs.List.{list_any}
use Rattle.schedule_threads.specs.RunNotes.{all_notes}
use Rattle.schedule_threads.specs.RunOutcomes.{lacked_memory}
use Rattle.schedule_threads.proofs.notes.all_notes.Given as goal

-- the notes so far and those of the remaining instances are all, and memory was not refused so far
abbrev pub invariant-loop-place : goal.invariant-loop-place
invariant-loop-place l = record {
  notes : l.notes.items ++ all_notes l.commands (l.place + 1) (drop l.place l.traces) ≡ all_notes l.commands 1 l.traces;
  memory : list_any lacked_memory (take l.place l.traces) ≡ false;
}
