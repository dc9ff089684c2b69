use Rattle.std.proofs.Common.{◌≡◌, ◌+◌, ◌≤◌, length, map}
use Rattle.log_lines.specs.Reading.{all_lines}
use Rattle.log_lines.specs.Names.Hosts.{peer_view}
use Rattle.log_lines.specs.Takes.Observations.{observations_view, with_lines}
use Rattle.log_lines.proofs.takes.reading.add_text.Given as goal

abbrev pub invariant-lines : goal.invariant-lines
invariant-lines l = record {
  observed : with_lines (map peer_view l.peers) l.range l.text l.number (all_lines l.rest) (observations_view l.observed)
      ≡ with_lines (map peer_view l.peers) l.range l.text 1 (all_lines l.bytes) (observations_view l.initial.observed);
  number : l.number + length l.rest ≤ 1 + length l.bytes;
}

abbrev pub decreases-lines : goal.decreases-lines
decreases-lines l = length l.rest
