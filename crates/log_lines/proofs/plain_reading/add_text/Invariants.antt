use Rattle.std.proofs.Common.{◌≡◌, ◌+◌, ◌≤◌, length}
use Rattle.log_lines.specs.PlainReading.{plain_line}
use Rattle.log_lines.specs.Reading.{read_view, with_lines, all_lines}
use Rattle.log_lines.proofs.plain_reading.add_text.Given as goal

abbrev pub invariant-lines : goal.invariant-lines
invariant-lines l = record {
  logged : with_lines plain_line l.range l.text l.number (all_lines l.rest) (read_view l.read) ≡ with_lines plain_line l.range l.text 1 (all_lines l.bytes) (read_view l.initial.read);
  number : l.number + length l.rest ≤ 1 + length l.bytes;
}

abbrev pub decreases-lines : goal.decreases-lines
decreases-lines l = length l.rest
