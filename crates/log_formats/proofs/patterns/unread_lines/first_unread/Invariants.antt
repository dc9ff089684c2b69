use Rattle.std.proofs.Common.{◌≡◌, drop, map}
use Rattle.regex.specs.Bytes.{matcher_pattern, regex_pattern}
use Rattle.regex.specs.Locations.{location_count}
use Rattle.log_formats.specs.Patterns.Groups.{AreAmong}
use Rattle.log_formats.specs.Patterns.PatternReading.{pattern_step}
use Rattle.log_formats.specs.Patterns.Unread.{pattern_unread, first_unread_in}
use Rattle.log_formats.proofs.patterns.unread_lines.first_unread.Given as goal

-- none of the texts above has such a line
abbrev pub invariant-loop-number : goal.invariant-loop-number
invariant-loop-number l =
    let e = l.fn.expression in
    let says = pattern_step e.groups e.more (regex_pattern e.regex) in
    let unreads = pattern_unread e.groups e.more (regex_pattern e.regex) in
    record {
      first : first_unread_in says unreads l.range l.number (map (λ text. text.now) (drop l.number l.texts)) ≡ first_unread_in says unreads l.range 0 (map (λ text. text.now) l.texts);
      pattern : matcher_pattern l.search.matcher ≡ regex_pattern e.regex;
      groups : l.search.groups ≡ e.groups;
      more : l.search.more ≡ e.more;
      among : AreAmong (location_count l.search.locations) l.search.groups;
    }
