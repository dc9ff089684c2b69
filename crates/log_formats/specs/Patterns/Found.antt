-- What a match of an expression gives, by its groups.
use Rattle.std.specs.Prelude.{ℕ, Bool, false, ◌&&◌, nat_le, List, [], ◌∷◌, Option, None, Some, length, option_map, is_some, unwrap_or, slice_range, if◌then◌else◌}
use Rattle.diagram_statements.specs.Options.{◌>>=◌}
use Rattle.log_lines.specs.Events.{EventView, LineView, AnEvent, AClocked, AMessage, Nothing, Other}
use Rattle.log_lines.specs.Plain.{direction_of}
use Rattle.log_lines.specs.declared.event.Act.TheVariants.{Send, Receive}
use Rattle.log_formats.specs.declared.patterns.groups.EventGroups.{EventGroups}
use Rattle.log_formats.specs.declared.patterns.groups.CaptureGroups.{CaptureGroups}
use Rattle.log_formats.specs.declared.patterns.groups.ClockGroups.{ClockGroups}
use Rattle.log_formats.specs.declared.patterns.groups.Groups.{Groups}
use Rattle.log_formats.specs.declared.patterns.groups.Groups.TheVariants as groups
use Rattle.log_formats.specs.declared.patterns.host_event.HostEvent.{HostEvent}
use Rattle.log_lines.specs.declared.plain.Direction.{Direction}
use Rattle.log_lines.specs.declared.plain.Direction.TheVariants.{Sends, Receives, Arrives, Unknown}

-- the bytes of a span
unfoldable pub span_bytes : List ℕ → ℕ × ℕ → Option (List ℕ)
span_bytes window s = if nat_le s.0 s.1 && nat_le s.1 (length window) then Some (slice_range window s.0 s.1) else None

-- the bytes of each group, with these spans
abbrev pub located : List ℕ → (ℕ → Option (ℕ × ℕ)) → ℕ → Option (List ℕ)
located window spans n = spans n >>= span_bytes window

-- an empty id is none
abbrev pub if_there : List ℕ → Option (List ℕ)
if_there [] = None
if_there (b ∷ bytes) = Some (b ∷ bytes)

abbrev pub id_of : (ℕ → Option (List ℕ)) → Option ℕ → Option (List ℕ)
id_of bytes None = None
id_of bytes (Some n) = bytes n >>= if_there

-- what a line gives for this event, by its direction
abbrev pub by_direction : Direction → EventView → LineView
by_direction Sends e = AnEvent (record e { act = Send })
by_direction Receives e = AnEvent (record e { act = Receive })
by_direction Arrives e = Nothing
by_direction Unknown e = Other

-- an optional group takes part
abbrev pub has_part : (ℕ → Option (List ℕ)) → Option ℕ → Bool
has_part bytes None = false
has_part bytes (Some n) = is_some (bytes n)

-- the direction of a match: an arrival if the group for arrivals takes part, and otherwise by the word for the
-- direction
abbrev pub direction_found : (ℕ → Option (List ℕ)) → EventGroups → Option Direction
direction_found bytes g = if has_part bytes g.arrive then Some Arrives else option_map direction_of (bytes g.direction)

-- what a match gives of a host: what it did with a message, or that a message reached it, and what its receive would
-- have taken
pub record HostEventView : Type 0 where
  pub host : List ℕ
  pub direction : Direction
  pub peer : List ℕ
  pub name : List ℕ
  pub id : Option (List ℕ)
  pub takes : Option (List ℕ)

abbrev pub host_event_view : HostEvent → HostEventView
host_event_view e = record {
  host = e.host.now;
  direction = e.direction;
  peer = e.peer.now;
  name = e.name.now;
  id = option_map (λ w. w.now) e.id;
  takes = option_map (λ w. w.now) e.takes;
}

abbrev pub host_event : (ℕ → Option (List ℕ)) → EventGroups → Option HostEventView
host_event bytes g = do
  host ← bytes g.host
  direction ← direction_found bytes g
  peer ← bytes g.peer
  name ← bytes g.name
  Some (record { host = host; direction = direction; peer = peer; name = name; id = id_of bytes g.id; takes = id_of bytes g.takes })

-- what a line gives for it
abbrev pub line_meaning : HostEventView → LineView
line_meaning e = by_direction e.direction (record { host = e.host; act = Send; peer = e.peer; name = e.name; id = e.id })

abbrev pub event_found : (ℕ → Option (List ℕ)) → EventGroups → Option LineView
event_found bytes g = option_map line_meaning (host_event bytes g)

abbrev pub captured_found : (ℕ → Option (List ℕ)) → CaptureGroups → Option LineView
captured_found bytes g = do
  host ← bytes g.source
  peer ← bytes g.destination
  name ← bytes g.name
  Some (AMessage (record { host = host; act = Send; peer = peer; name = name; id = id_of bytes g.id }))

abbrev pub clocked_found : (ℕ → Option (List ℕ)) → ClockGroups → Option LineView
clocked_found bytes g = do
  host ← bytes g.host
  clock ← bytes g.clock
  event ← bytes g.event
  Some (AClocked (record { host = host; clock = clock; event = event }))

abbrev pub found_in : (ℕ → Option (List ℕ)) → Groups → Option LineView
found_in bytes (groups.Event g) = event_found bytes g
found_in bytes (groups.Capture g) = captured_found bytes g
found_in bytes (groups.Clock g) = clocked_found bytes g

-- what a match with these groups gives; if one of them takes no part, the match isn't read
unfoldable pub found_by : (ℕ → Option (List ℕ)) → Groups → LineView
found_by bytes g = unwrap_or (found_in bytes g) Other
