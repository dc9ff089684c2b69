use Rattle.std.proofs.Common.{◌≡◌, ℕ, List, map, take}
use Rattle.std.specs.Prelude.{filter_map}
use Rattle.std.specs.Map.{lookup}
use Rattle.log_lines.specs.Takes.Arrivals.{same_as, stream_of, arrival_of}
use Rattle.log_lines.specs.Takes.Messages.{KeyView, key_view}
use Rattle.log_lines.specs.Takes.Observations.{arrived_view}
use Rattle.log_lines.specs.declared.takes.key.Key.{Key}
use Rattle.log_lines.proofs.takes.arrivals.arrivals_by.Given as goal

abbrev pub invariant-loop-message : goal.invariant-loop-message
invariant-loop-message l =
    (keys : List KeyView) (numbers : List ℕ) → ((q : Key) → lookup (same_as q) l.streams.entries ≡ stream_of keys numbers (key_view q))
    → l.arrivals.items ≡ filter_map (arrival_of keys numbers) (map arrived_view (take l.message-index l.arrived))
