-- The group that an expression without a whole set of groups lacks: the first one of the set that is meant.
use Rattle.std.specs.Prelude.{ℕ, Bool, ◌||◌, ◌&&◌, List, Option, None, Some, is_some, codes, if◌then◌else◌, not}
use Rattle.log_formats.specs.Patterns.Groups.{group_in}
use Rattle.log_formats.specs.declared.patterns.missing.Group.{Group}
use Rattle.log_formats.specs.declared.patterns.missing.Group.TheVariants.{Host, Direction, Peer, Name, Source, Destination, Clock, Event}

-- a group has this name
abbrev pub has_group : List (Option (List ℕ)) → List ℕ → Bool
has_group names name = is_some (group_in names name)

-- the first group that an event with its vector time lacks, if it lacks one
abbrev pub clock_lacks : List (Option (List ℕ)) → Group
clock_lacks names = if not (has_group names (codes "host")) then Host else (if not (has_group names (codes "clock")) then Clock else Event)

-- the same for a captured message
abbrev pub capture_lacks : List (Option (List ℕ)) → Group
capture_lacks names = if not (has_group names (codes "src")) then Source else (if not (has_group names (codes "dst")) then Destination else Name)

-- the same for an event of a host
abbrev pub event_lacks : List (Option (List ℕ)) → Group
event_lacks names =
    if not (has_group names (codes "host")) then Host
    else (if not (has_group names (codes "dir")) then Direction else (if not (has_group names (codes "peer")) then Peer else Name))

-- there is a group that only events with vector time have
abbrev pub is_timed : List (Option (List ℕ)) → Bool
is_timed names = has_group names (codes "clock") || has_group names (codes "event")

-- there is a group that only captured messages have
abbrev pub is_captured : List (Option (List ℕ)) → Bool
is_captured names = has_group names (codes "src") || has_group names (codes "dst")

-- the set that is meant: that of vector time if there is a group of it alone; otherwise that of captured messages if
-- there is a group of it alone; otherwise that of events
abbrev pub lacks : List (Option (List ℕ)) → Group
lacks names = if is_timed names then clock_lacks names else (if is_captured names then capture_lacks names else event_lacks names)

-- there is a group of events of a host that captured messages don't have
abbrev pub is_of_host : List (Option (List ℕ)) → Bool
is_of_host names = has_group names (codes "host") || (has_group names (codes "dir") || has_group names (codes "peer"))

-- there are groups of captured messages and of events of a host, and the name, which both have: either set may be meant
abbrev pub is_mixed : List (Option (List ℕ)) → Bool
is_mixed names = is_captured names && (is_of_host names && has_group names (codes "name"))

-- the first group that events of a host lack, if these may be meant as well as captured messages
abbrev pub lacks_besides : List (Option (List ℕ)) → Option Group
lacks_besides names = if is_timed names then None else (if is_mixed names then Some (event_lacks names) else None)
