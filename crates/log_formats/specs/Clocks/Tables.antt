-- The places of events, by their hosts.
use Rattle.std.specs.Prelude.{◌≡◌, ℕ, Bool, List, [], take, Option, None, Some, slice_get, bytes_eq}
use Rattle.std.specs.Map.{lookup}
use Rattle.log_formats.specs.Clocks.Moments.{MomentView, last_stamps, place_from}
use Rattle.log_formats.specs.Clocks.Stamps.{StampView, stamp_view, same_stamp}
use Rattle.log_formats.specs.declared.clocks.stamp.Stamp.{Stamp}
use Rattle.log_formats.specs.declared.clocks.tables.Host.{Host}

abbrev pub same_as : Stamp → Stamp → Bool
same_as s t = same_stamp (stamp_view s) (stamp_view t)

-- a table has the place of the first event with each entry as its own
pub record ArePlaces (moments : List MomentView) (entries : List (Stamp × ℕ)) : Type 0 where
  pub place : (s : Stamp) → lookup (same_as s) entries ≡ place_from 0 (stamp_view s) moments

abbrev pub same_host : Host → Host → Bool
same_host h k = bytes_eq h.name.now k.name.now

-- the clock of the event at a place, or no entries if there is no event
abbrev pub stamps_of : Option MomentView → List StampView
stamps_of None = []
stamps_of (Some m) = m.stamps

abbrev pub stamps_at : List MomentView → Option ℕ → List StampView
stamps_at moments None = []
stamps_at moments (Some place) = stamps_of (slice_get moments place)

-- a table has the place of each host's last event among the first count events whose clocks give their numbers
pub record AreLasts (moments : List MomentView) (count : ℕ) (entries : List (Host × ℕ)) : Type 0 where
  pub last : (h : Host) → stamps_at moments (lookup (same_host h) entries) ≡ last_stamps [] h.name.now (take count moments)
