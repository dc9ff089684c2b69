-- Why lines make no log: there are too many hosts, or a host is its own peer. The first such line decides.
use Rattle.std.specs.Prelude.{◌≡◌, ℕ, ◌<◌, ◌==◌, nat_lt, List, [], ◌∷◌, length, fold, Option, None, Some, if◌then◌else◌}
use Rattle.chart.specs.declared.instance.TheConstants.{MAX_INSTANCES}
use Rattle.log_chart.specs.Named.Entering.{Before, with_word, with_hosts, host_in, peer_in, with_line}
use Rattle.log_chart.specs.Named.Logs.{begun}
use Rattle.log_chart.specs.declared.named.entering.LogError.{LogError}
use Rattle.log_chart.specs.declared.named.entering.LogError.TheVariants.{Memory, Instances, ToItself}
use Rattle.log_chart.specs.declared.named.host_event.HostEvent.{HostEvent}

-- what is wrong with a line, after what is known before it
abbrev pub fault_in : Before → HostEvent → Option LogError
fault_in b s =
    if nat_lt MAX_INSTANCES (length (with_hosts b.hosts s)) then Some Instances
    else (if host_in b.hosts s == peer_in b.hosts s then Some (ToItself s.place) else None)

-- the first of two faults
abbrev pub sooner : Option LogError → Option LogError → Option LogError
sooner None later = later
sooner (Some e) later = Some e

-- the first fault of these lines
unfoldable pub first_fault : Before → List HostEvent → Option LogError
first_fault b [] = None
first_fault b (s ∷ event) = sooner (fault_in b s) (first_fault (with_line b s) event)

-- the first fault of lines, if these hosts come first
abbrev pub fault_of : List (List ℕ) → List HostEvent → Option LogError
fault_of hosts event =
    if nat_lt MAX_INSTANCES (length (fold with_word [] hosts)) then Some Instances else first_fault (begun hosts) event

-- a refusal gives the fault; that of memory gives none
abbrev pub IsRefusal : Option LogError → LogError → Type 0
IsRefusal fault Memory = Unit {0}
IsRefusal fault Instances = fault ≡ Some Instances
IsRefusal fault (ToItself place) = fault ≡ Some (ToItself place)

-- a refusal of a host after these hosts
abbrev pub IsHostRefusal : List (List ℕ) → List ℕ → LogError → Type 0
IsHostRefusal hosts name Memory = Unit {0}
IsHostRefusal hosts name Instances = MAX_INSTANCES < length (with_word hosts name)
IsHostRefusal hosts name (ToItself place) = ⊥
