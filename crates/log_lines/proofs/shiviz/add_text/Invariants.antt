use Rattle.std.proofs.Common.{◌≡◌, ◌+◌, ◌≤◌, length}
use Rattle.log_lines.specs.Reading.{read_view, all_lines}
use Rattle.log_lines.specs.ShiViz.{shiviz_step}
use Rattle.log_lines.specs.Windows.{with_windows}
use Rattle.log_lines.proofs.shiviz.add_text.Given as goal

abbrev pub invariant-lines : goal.invariant-lines
invariant-lines l = record {
  logged : with_windows shiviz_step l.range l.text l.number l.taken (all_lines l.rest) (read_view l.read)
      ≡ with_windows shiviz_step l.range l.text 1 0 (all_lines l.bytes) (read_view l.initial.read);
  number : l.number + length l.rest ≤ 1 + length l.bytes;
}

abbrev pub decreases-lines : goal.decreases-lines
decreases-lines l = length l.rest
