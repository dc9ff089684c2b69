use Rattle.std.proofs.Common.{◌≡◌, map, filter, take}
use Rattle.log_lines.specs.Events.{logged_event_view}
use Rattle.log_lines.specs.Names.Hosts.{peer_view}
use Rattle.race_verdicts.specs.Recordings.{words_view}
use Rattle.log_lines.specs.Takes.Messages.{line_words, is_between}
use Rattle.log_lines.proofs.takes.messages.words_in.Given as goal

abbrev pub invariant-loop-line : goal.invariant-loop-line
invariant-loop-line l =
    map words_view l.words.items
    ≡ map (line_words (map peer_view l.peers)) (filter (is_between (map peer_view l.peers)) (map logged_event_view (take l.line-index l.logged)))
