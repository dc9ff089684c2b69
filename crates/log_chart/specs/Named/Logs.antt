-- Logs as the code holds them.
use Rattle.std.specs.Prelude.{◌≡◌, ℕ, ◌<◌, List, [], length, fold, Contains}
use Rattle.chart.specs.declared.instance.TheConstants.{MAX_INSTANCES}
use Rattle.log_chart.specs.declared.entry.Entry.{Entry}
use Rattle.log_chart.specs.declared.entry.Place.{Place}
use Rattle.log_chart.specs.Named.Entering.{Before, with_word, entries_from, hosts_from}
use Rattle.log_chart.specs.declared.named.entering.LogError.{LogError}
use Rattle.log_chart.specs.declared.named.entering.LogError.TheVariants.{Memory, Instances, ToItself}
use Rattle.log_chart.specs.declared.named.entering.Reading.{Reading}
use Rattle.log_chart.specs.declared.named.host_event.HostEvent.{HostEvent}

-- what is known so far
abbrev pub before_of : Reading → Before
before_of r = record { hosts = r.hosts; names = r.names.keys; streams = r.streams.keys }

-- these hosts come first
abbrev pub begun : List (List ℕ) → Before
begun hosts = record { hosts = fold with_word [] hosts; names = []; streams = [] }

-- an entry whose host is its own peer, at this place
pub record IsOwn (log : List Entry) (place : Place) : Type 0 where
  pub entry : Entry
  pub among : Contains log entry
  pub own : entry.host ≡ entry.peer
  pub at : entry.place ≡ place

-- what a refusal means for all lines, if these hosts come first
abbrev pub IsRefusalOf : List (List ℕ) → List HostEvent → LogError → Type 0
IsRefusalOf hosts lines Memory = Unit {0}
IsRefusalOf hosts lines Instances = MAX_INSTANCES < length (hosts_from (begun hosts) lines)
IsRefusalOf hosts lines (ToItself place) = IsOwn (entries_from (begun hosts) lines) place
