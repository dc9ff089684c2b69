use Rattle.std.proofs.Common.{◌≡◌, ◌≤◌, length, drop, map}
use Rattle.std.specs.Map.{lookup}
use Rattle.log_lines.specs.Takes.Arrivals.{same_as, stream_of}
use Rattle.log_lines.specs.Takes.Messages.{key_view}
use Rattle.log_lines.specs.declared.takes.key.Key.{Key}
use Rattle.log_lines.proofs.takes.arrivals.streams_of.Given as goal

abbrev pub invariant-lines : goal.invariant-lines
invariant-lines l = record {
  found : (q : Key) → lookup (same_as q) l.streams.entries
      ≡ stream_of (map key_view (drop l.count l.keys)) (map (λ e. e.stream) (drop l.count l.entries)) (key_view q);
  keys : l.count ≤ length l.keys;
  entries : l.count ≤ length l.entries;
}

abbrev pub decreases-lines : goal.decreases-lines
decreases-lines l = l.count
