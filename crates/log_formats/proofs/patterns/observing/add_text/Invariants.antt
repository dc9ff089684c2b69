use Rattle.std.proofs.Common.{◌≡◌, ◌+◌, ◌≤◌, length, map}
use Rattle.regex.specs.Bytes.{matcher_pattern}
use Rattle.regex.specs.Locations.{location_count}
use Rattle.log_formats.specs.Patterns.Groups.{AreAmong}
use Rattle.log_formats.specs.Patterns.Observing.{with_line_events}
use Rattle.log_formats.specs.Patterns.PatternReading.{pattern_step, pattern_event}
use Rattle.log_lines.specs.Names.Hosts.{peer_view}
use Rattle.log_lines.specs.Reading.{all_lines}
use Rattle.log_lines.specs.Takes.Observations.{observations_view}
use Rattle.log_formats.proofs.patterns.observing.add_text.Given as goal

abbrev pub invariant-lines : goal.invariant-lines
invariant-lines l =
    let s = l.initial.search in
    let says = pattern_step s.groups s.more (matcher_pattern s.matcher) in
    let events = pattern_event s.groups s.more (matcher_pattern s.matcher) in
    record {
      observes : with_line_events (map peer_view l.peers) says events l.range l.number l.taken (all_lines l.rest) (observations_view l.observed)
          ≡ with_line_events (map peer_view l.peers) says events l.range 1 0 (all_lines l.bytes) (observations_view l.initial.observed);
      number : l.number + length l.rest ≤ 1 + length l.bytes;
      pattern : matcher_pattern l.search.matcher ≡ matcher_pattern s.matcher;
      groups : l.search.groups ≡ s.groups;
      more : l.search.more ≡ s.more;
      among : AreAmong (location_count l.search.locations) l.search.groups;
    }

abbrev pub decreases-lines : goal.decreases-lines
decreases-lines l = length l.rest
