use Rattle.std.proofs.Common.{◌≡◌, ◌+◌, ◌≤◌, length}
use Rattle.texts.specs.Lines.{lines_of, end_of}
use Rattle.schedule.specs.Reading.{commands_from}
use Rattle.schedule.proofs.Commands.{with_front}
use Rattle.schedule.proofs.reading.commands_in.Given as goal

abbrev pub invariant-lines : goal.invariant-lines
invariant-lines l = record {
  so_far : with_front l.commands.items (commands_from l.names l.number (lines_of l.rest)) ≡ commands_from l.names 3 (lines_of l.bytes);
  end : end_of l.rest ≡ end_of l.bytes;
  number : l.number + length l.rest ≤ 3 + length l.bytes;
}

abbrev pub decreases-lines : goal.decreases-lines
decreases-lines l = length l.rest
