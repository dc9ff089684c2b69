use Rattle.std.proofs.Common.{◌≡◌, ◌≤◌, length, drop, map}
use Rattle.std.specs.Map.{lookup}
use Rattle.log_formats.specs.Clocks.Moments.{moment_view, place_from}
use Rattle.log_formats.specs.Clocks.Stamps.{stamp_view}
use Rattle.log_formats.specs.Clocks.Tables.{same_as}
use Rattle.log_formats.specs.declared.clocks.stamp.Stamp.{Stamp}
use Rattle.log_formats.proofs.clocks.tables.places_of.Given as goal

abbrev pub invariant-places : goal.invariant-places
invariant-places l = record {
  within : l.place ≤ length l.moments;
  found : (s : Stamp) → lookup (same_as s) l.places.entries ≡ place_from l.place (stamp_view s) (map moment_view (drop l.place l.moments));
}

abbrev pub decreases-places : goal.decreases-places
decreases-places l = l.place
