use Rattle.std.proofs.Common.{◌≡◌, ◌+◌, ◌≤◌, length}
use Rattle.regex.specs.Bytes.{matcher_pattern}
use Rattle.regex.specs.Locations.{location_count}
use Rattle.log_lines.specs.Reading.{all_lines}
use Rattle.log_formats.specs.Patterns.Groups.{AreAmong}
use Rattle.log_formats.specs.Patterns.PatternReading.{pattern_step}
use Rattle.log_formats.specs.Patterns.Unread.{pattern_unread, first_unread_from}
use Rattle.log_formats.proofs.patterns.unread_lines.first_of_text.Given as goal

-- none of the lines above is such a line
abbrev pub invariant-lines : goal.invariant-lines
invariant-lines l =
    let s = l.initial.search in
    let says = pattern_step s.groups s.more (matcher_pattern s.matcher) in
    let unreads = pattern_unread s.groups s.more (matcher_pattern s.matcher) in
    record {
      first : first_unread_from says unreads l.range l.text l.number l.taken (all_lines l.rest) ≡ first_unread_from says unreads l.range l.text 1 0 (all_lines l.bytes);
      number : l.number + length l.rest ≤ 1 + length l.bytes;
      pattern : matcher_pattern l.search.matcher ≡ matcher_pattern s.matcher;
      groups : l.search.groups ≡ s.groups;
      more : l.search.more ≡ s.more;
      among : AreAmong (location_count l.search.locations) l.search.groups;
    }

abbrev pub decreases-lines : goal.decreases-lines
decreases-lines l = length l.rest
