-- The events of a log with names of hosts and of messages, which follow the rule for labels.
use Rattle.std.specs.Prelude.{ℕ, Bool, true, false, List, [], ◌∷◌, ◌++◌, Option, None, Some, fold, bytes_eq, if◌then◌else◌}
use Rattle.std.specs.List.{position_or_len}
use Rattle.diagram_labels.specs.Labels.{Labelling, none, with_label, name_of}
use Rattle.log_lines.specs.Events.{LoggedEventView}
use Rattle.log_lines.specs.Reading.{with_other}
use Rattle.log_lines.specs.declared.event.Act.{Act}
use Rattle.log_lines.specs.declared.event.Act.TheVariants.{Send, Receive}
use Rattle.log_lines.specs.declared.read.Others.{Others}
use Rattle.log_lines.specs.Names.Hosts.{PeerView, host_of}
use Rattle.log_lines.specs.Names.Ids.{with_id}
use Rattle.log_lines.specs.declared.names.line.NamedLine.{NamedLine}
use Rattle.log_lines.specs.declared.names.naming.NamedLog.{NamedLog}

-- the names of hosts and messages with their words, the known ids, the lines with names, and the skipped events, of
-- messages of a host to itself
pub record NamedView : Type 0 where
  pub hosts : Labelling
  pub messages : Labelling
  pub ids : List (List ℕ)
  pub lines : List NamedLine
  pub own : Option Others

abbrev pub named_view : NamedLog → NamedView
named_view n = record { hosts = n.hosts; messages = n.messages; ids = n.ids; lines = n.lines.items; own = n.own }

abbrev pub nothing_named : NamedView
nothing_named = record { hosts = none; messages = none; ids = []; lines = []; own = None }

abbrev pub sends : Act → Bool
sends Send = true
sends Receive = false

-- the ids with this one added, if there is one
abbrev pub ids_with : List (List ℕ) → Option (List ℕ) → List (List ℕ)
ids_with ids None = ids
ids_with ids (Some id) = with_id ids id

-- the number of a known id
abbrev pub id_number : List (List ℕ) → Option (List ℕ) → Option ℕ
id_number ids None = None
id_number ids (Some id) = Some (position_or_len (bytes_eq id) ids)

-- the hosts with these two added
abbrev pub with_hosts : Labelling → List ℕ → List ℕ → Labelling
with_hosts hosts host peer = with_label (with_label hosts host) peer

-- with an event of this host added, with the other end of the message at this peer
abbrev pub with_event : List ℕ → List ℕ → LoggedEventView → NamedView → NamedView
with_event host peer s n = record {
  hosts = with_hosts n.hosts host peer;
  messages = with_label n.messages s.event.name;
  ids = ids_with n.ids s.event.id;
  lines = n.lines ++ record {
    host = name_of (with_label n.hosts host) host;
    sends = sends s.event.act;
    peer = name_of (with_hosts n.hosts host peer) peer;
    name = name_of (with_label n.messages s.event.name) s.event.name;
    id = id_number (ids_with n.ids s.event.id) s.event.id;
    place = s.place;
  } ∷ [];
  own = n.own;
}

-- with an event added; `peers` has the log's other words for hosts
abbrev pub with_logged : List PeerView → LoggedEventView → NamedView → NamedView
with_logged peers s n =
    if bytes_eq (host_of peers s.event.host) (host_of peers s.event.peer)
    then record { hosts = n.hosts; messages = n.messages; ids = n.ids; lines = n.lines; own = Some (with_other s.place n.own) }
    else with_event (host_of peers s.event.host) (host_of peers s.event.peer) s n

-- with these events added
abbrev pub with_all : List PeerView → List LoggedEventView → NamedView → NamedView
with_all peers [] n = n
with_all peers (s ∷ logged) n = with_all peers logged (with_logged peers s n)

-- the events of a log with names; the hosts in `hosts` come first
unfoldable pub named : List (List ℕ) → List PeerView → List LoggedEventView → NamedView
named hosts peers logged =
    with_all peers logged (record { hosts = fold with_label none hosts; messages = none; ids = []; lines = []; own = None })
