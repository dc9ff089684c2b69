use Rattle.std.proofs.Common.{◌≡◌, ◌+◌, ◌≤◌, length}
use Rattle.regex.specs.Bytes.{matcher_pattern}
use Rattle.regex.specs.Locations.{location_count}
use Rattle.log_formats.specs.Patterns.Groups.{AreAmong}
use Rattle.log_formats.specs.Patterns.PatternReading.{pattern_step}
use Rattle.log_lines.specs.Reading.{read_view, all_lines}
use Rattle.log_lines.specs.Windows.{with_windows}
use Rattle.log_formats.proofs.patterns.pattern_reading.add_text.Given as goal

abbrev pub invariant-lines : goal.invariant-lines
invariant-lines l = record {
  logged : with_windows (pattern_step l.initial.search.groups l.initial.search.more (matcher_pattern l.initial.search.matcher)) l.range l.text l.number l.taken (all_lines l.rest) (read_view l.read)
      ≡ with_windows (pattern_step l.initial.search.groups l.initial.search.more (matcher_pattern l.initial.search.matcher)) l.range l.text 1 0 (all_lines l.bytes) (read_view l.initial.read);
  number : l.number + length l.rest ≤ 1 + length l.bytes;
  pattern : matcher_pattern l.search.matcher ≡ matcher_pattern l.initial.search.matcher;
  groups : l.search.groups ≡ l.initial.search.groups;
  more : l.search.more ≡ l.initial.search.more;
  among : AreAmong (location_count l.search.locations) l.search.groups;
}

abbrev pub decreases-lines : goal.decreases-lines
decreases-lines l = length l.rest
