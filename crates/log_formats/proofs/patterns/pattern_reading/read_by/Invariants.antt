use Rattle.std.proofs.Common.{◌≡◌, drop, map}
use Rattle.regex.specs.Bytes.{matcher_pattern, regex_pattern}
use Rattle.regex.specs.Locations.{location_count}
use Rattle.log_formats.specs.Patterns.Groups.{AreAmong}
use Rattle.log_formats.specs.Patterns.PatternReading.{pattern_step}
use Rattle.log_lines.specs.Reading.{read_view, nothing_read}
use Rattle.log_lines.specs.Windows.{with_window_texts}
use Rattle.log_formats.proofs.patterns.pattern_reading.read_by.Given as goal

abbrev pub invariant-loop-number : goal.invariant-loop-number
invariant-loop-number l = record {
  logged : with_window_texts (pattern_step l.fn.expression.groups l.fn.expression.more (regex_pattern l.fn.expression.regex)) l.range l.number (map (λ text. text.now) (drop l.number l.texts)) (read_view l.read)
      ≡ with_window_texts (pattern_step l.fn.expression.groups l.fn.expression.more (regex_pattern l.fn.expression.regex)) l.range 0 (map (λ text. text.now) l.texts) nothing_read;
  pattern : matcher_pattern l.search.matcher ≡ regex_pattern l.fn.expression.regex;
  groups : l.search.groups ≡ l.fn.expression.groups;
  more : l.search.more ≡ l.fn.expression.more;
  among : AreAmong (location_count l.search.locations) l.search.groups;
}
