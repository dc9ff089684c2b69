use Rattle.std.proofs.Common.{◌≡◌, drop, map}
use Rattle.log_lines.specs.Names.Hosts.{peer_view}
use Rattle.log_lines.specs.Takes.Observations.{observations_view, no_observations, with_texts}
use Rattle.log_lines.proofs.takes.reading.read_observed.Given as goal

abbrev pub invariant-loop-number : goal.invariant-loop-number
invariant-loop-number l =
    with_texts (map peer_view l.peers) l.range l.number (map (λ text. text.now) (drop l.number l.texts)) (observations_view l.observed)
    ≡ with_texts (map peer_view l.peers) l.range 0 (map (λ text. text.now) l.texts) no_observations
