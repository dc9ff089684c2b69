-- The warnings that count a log's events, and name hosts with lines of their own and without.
use Rattle.std.specs.Prelude.{ℕ, ◌==◌, List, ◌++◌, codes, decimal, if◌then◌else◌}
use Rattle.std.specs.List.{flat_map}

-- the numbers of events and hosts
unfoldable pub one_event_line : ℕ → List ℕ
one_event_line hosts = codes "1 event of " ++ (decimal hosts ++ codes " hosts is read\n")

unfoldable pub several_events_line : ℕ → ℕ → List ℕ
several_events_line events hosts = decimal events ++ (codes " events of " ++ (decimal hosts ++ codes " hosts are read\n"))

abbrev pub events_text : ℕ → ℕ → List ℕ
events_text events hosts = if events == 1 then one_event_line hosts else several_events_line events hosts

-- a host without a line of its own
unfoldable pub lineless_text : List ℕ → List ℕ
lineless_text name = name ++ codes " has no line of its own\n"

-- a host with lines of its own
unfoldable pub lined_text : List ℕ → List ℕ
lined_text name = name ++ codes " has lines of its own\n"

-- the number of events of the hosts, and the hosts without a line of their own
unfoldable pub read_text : ℕ → ℕ → List (List ℕ) → List ℕ
read_text events hosts lineless = events_text events hosts ++ flat_map lineless_text lineless
