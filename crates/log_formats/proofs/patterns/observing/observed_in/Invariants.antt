use Rattle.std.proofs.Common.{◌≡◌, drop, map}
use Rattle.regex.specs.Bytes.{matcher_pattern, regex_pattern}
use Rattle.regex.specs.Locations.{location_count}
use Rattle.log_formats.specs.Patterns.Groups.{AreAmong}
use Rattle.log_formats.specs.Patterns.Observing.{with_text_events}
use Rattle.log_formats.specs.Patterns.PatternReading.{pattern_step, pattern_event}
use Rattle.log_lines.specs.Names.Hosts.{peer_view}
use Rattle.log_lines.specs.Takes.Observations.{observations_view, no_observations}
use Rattle.log_formats.proofs.patterns.observing.observed_in.Given as goal

abbrev pub invariant-loop-text : goal.invariant-loop-text
invariant-loop-text l =
    let e = l.fn.expression in
    let says = pattern_step e.groups e.more (regex_pattern e.regex) in
    let events = pattern_event e.groups e.more (regex_pattern e.regex) in
    record {
      observes : with_text_events (map peer_view l.peers) says events l.range (map (λ text. text.now) (drop l.text-index l.texts)) (observations_view l.observed)
          ≡ with_text_events (map peer_view l.peers) says events l.range (map (λ text. text.now) l.texts) no_observations;
      pattern : matcher_pattern l.search.matcher ≡ regex_pattern e.regex;
      groups : l.search.groups ≡ e.groups;
      more : l.search.more ≡ e.more;
      among : AreAmong (location_count l.search.locations) l.search.groups;
    }
