-- The entries of a log, made from its lines.
use Rattle.std.specs.Prelude.{ℕ, List, Option, map}
use Rattle.log_chart.specs.Named.Entering.{hosts_from, entries_from}
use Rattle.log_chart.specs.Named.Faults.{fault_of}
use Rattle.log_chart.specs.Named.Logs.{begun}
use Rattle.log_chart.specs.declared.named.entering.LogError.{LogError}
use Rattle.log_chart.specs.declared.named.host_event.HostEvent.{HostEvent}
use Rattle.log_lines.specs.declared.event.Place.{Place}
use Rattle.log_lines.specs.Names.Naming.{NamedView}
use Rattle.log_lines.specs.declared.names.line.NamedLine.{NamedLine}
use Rattle.log_chart.specs.declared.entry.Entry.{Entry}
use Rattle.log_chart.specs.declared.entry.Place.{Place as EntryPlace}

-- the place of a line, as entries have it
abbrev pub entry_place : Place → EntryPlace
entry_place p = record { file = p.text; line = p.line }

abbrev pub host_event_of : NamedLine → HostEvent
host_event_of l = record { host = l.host; sends = l.sends; peer = l.peer; name = l.name; id = l.id; place = entry_place l.place }

-- the entries of the lines, with the hosts in the order of their names in this log
abbrev pub entries_in : NamedView → List Entry
entries_in n = entries_from (begun n.hosts.names) (map host_event_of n.lines)

-- the names of the instances
abbrev pub names_in : NamedView → List (List ℕ)
names_in n = hosts_from (begun n.hosts.names) (map host_event_of n.lines)

-- the reason why they are no log: the first line with one host too many, or with a host that is its own peer
abbrev pub fault_in : NamedView → Option LogError
fault_in n = fault_of n.hosts.names (map host_event_of n.lines)
