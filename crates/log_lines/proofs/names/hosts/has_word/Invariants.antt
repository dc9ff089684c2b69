use Rattle.std.proofs.Common.{◌≡◌, map, drop}
use Rattle.std.specs.Prelude.{bytes_eq}
use Rattle.std.specs.List.{list_any}
use Rattle.log_lines.proofs.names.hosts.has_word.Given as goal

abbrev pub invariant-loop-known : goal.invariant-loop-known
invariant-loop-known l = list_any (bytes_eq l.word) (map (λ w. w.now) (drop l.known-index l.words)) ≡ list_any (bytes_eq l.word) (map (λ w. w.now) l.words)
