use Rattle.std.proofs.Common.{◌≡◌, map, take}
use Rattle.log_lines.specs.Names.Hosts.{peer_view}
use Rattle.log_lines.specs.Takes.Patterns.{short_patterns}
use Rattle.log_lines.specs.Takes.Observations.{observations_view, with_patterns}
use Rattle.log_lines.proofs.takes.observations.Observations.add_short_patterns.Given as goal

abbrev pub invariant-loop-word : goal.invariant-loop-word
invariant-loop-word l =
    observations_view l.self ≡ with_patterns (short_patterns (map peer_view l.peers) (map (λ w. w.now) (take l.word-index l.words))) (observations_view l.initial.self)
