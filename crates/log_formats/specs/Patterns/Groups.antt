-- The groups of an expression (after ShiViz's convention: a group has the meaning of its name).
use Rattle.std.specs.Prelude.{ℕ, ◌+◌, ◌≤◌, ◌<◌, Bool, false, List, [], ◌∷◌, Option, None, Some, option_map, position, string_bytes, String, bytes_eq, codes}
use Rattle.texts.specs.Words.{or_else}
use Rattle.diagram_statements.specs.Options.{◌>>=◌}
use Rattle.log_formats.specs.declared.patterns.groups.Groups.{Groups}
use Rattle.log_formats.specs.declared.patterns.groups.Groups.TheVariants.{Event, Capture, Clock}

-- the group has this name
abbrev pub is_named : List ℕ → Option (List ℕ) → Bool
is_named name None = false
is_named name (Some word) = bytes_eq word name

-- the place of the first group with this name
abbrev pub named_at : {A : Type 0} → List ℕ → List (Option (String A)) → Option ℕ
named_at name groups = position (λ g. is_named name (option_map string_bytes g)) groups

-- the number of the first group with this name; group 0 is the match itself
unfoldable pub group_in : List (Option (List ℕ)) → List ℕ → Option ℕ
group_in [] name = None
group_in (g ∷ groups) name = option_map (λ n. n + 1) (position (is_named name) groups)

abbrev pub event_groups : List (Option (List ℕ)) → Option Groups
event_groups names = do
  host ← group_in names (codes "host")
  direction ← group_in names (codes "dir")
  peer ← group_in names (codes "peer")
  name ← group_in names (codes "name")
  Some
      (Event
      (record {
        host = host;
        direction = direction;
        peer = peer;
        name = name;
        id = group_in names (codes "id");
        takes = group_in names (codes "takes");
        arrive = group_in names (codes "arrive");
      }))

abbrev pub capture_groups : List (Option (List ℕ)) → Option Groups
capture_groups names = do
  source ← group_in names (codes "src")
  destination ← group_in names (codes "dst")
  name ← group_in names (codes "name")
  Some (Capture (record { source = source; destination = destination; name = name; id = group_in names (codes "id") }))

abbrev pub clock_groups : List (Option (List ℕ)) → Option Groups
clock_groups names = do
  host ← group_in names (codes "host")
  clock ← group_in names (codes "clock")
  event ← group_in names (codes "event")
  Some (Clock (record { host = host; clock = clock; event = event }))

-- the set of groups: the first of the three sets that the expression has
abbrev pub groups_in : List (Option (List ℕ)) → Option Groups
groups_in names = or_else (event_groups names) (or_else (capture_groups names) (clock_groups names))

-- one of count groups, and not the match itself
abbrev pub IsAmong : ℕ → ℕ → Type 0
IsAmong count n = (1 ≤ n) × (n < count)

abbrev pub IsAmongIfThere : ℕ → Option ℕ → Type 0
IsAmongIfThere count None = Unit {0}
IsAmongIfThere count (Some n) = IsAmong count n

abbrev pub AreAmong : ℕ → Groups → Type 0
AreAmong count (Event g) = IsAmong count g.host × IsAmong count g.direction × IsAmong count g.peer × IsAmong count g.name × IsAmongIfThere count g.id × IsAmongIfThere count g.takes × IsAmongIfThere count g.arrive
AreAmong count (Capture g) = IsAmong count g.source × IsAmong count g.destination × IsAmong count g.name × IsAmongIfThere count g.id
AreAmong count (Clock g) = IsAmong count g.host × IsAmong count g.clock × IsAmong count g.event
