use Rattle.std.proofs.Common.{◌≡◌, ◌≤◌, length, drop, reverse}
use Rattle.schedule_replay.specs.Notes.Notes.{noted, AreNext}
use Rattle.schedule_replay.proofs.notes.notes.noted_all.Given as goal

-- the notes of the commands from a place on, the last first, and the next send of each lane there
abbrev pub invariant-commands : goal.invariant-commands
invariant-commands l = record {
  within : l.place ≤ length l.commands;
  kept : reverse l.notes.items ≡ noted (drop l.place l.commands) (drop l.place l.words);
  next : AreNext l.next (drop l.place l.commands) (drop l.place l.words);
}

abbrev pub decreases-commands : goal.decreases-commands
decreases-commands l = l.place
