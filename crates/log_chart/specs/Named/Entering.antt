-- The entries of a log, from lines with names: the instance of each host, and the stream of each line's message. Along
-- a lane messages are paired by id, or by name if they have no id.
use Rattle.std.specs.Prelude.{ℕ, suc, Bool, ◌&&◌, ◌==◌, List, [], ◌∷◌, ◌++◌, Option, None, Some, is_some, bytes_eq, if◌then◌else◌}
use Rattle.std.specs.Bool.{beq}
use Rattle.std.specs.List.{position_or_len, list_any}
use Rattle.log_chart.specs.declared.entry.Entry.{Entry}
use Rattle.log_chart.specs.declared.entry.Kind.{Kind}
use Rattle.log_chart.specs.declared.entry.Kind.TheVariants.{Send, Receive}
use Rattle.log_chart.specs.declared.named.host_event.HostEvent.{HostEvent}
use Rattle.log_chart.specs.declared.named.stream.Stream.{Stream}

-- the words, with this one if it isn't among them
abbrev pub with_word : List (List ℕ) → List ℕ → List (List ℕ)
with_word words w = if list_any (bytes_eq w) words then words else words ++ w ∷ []

-- the place of the word among them then, from 0
abbrev pub place_in : List (List ℕ) → List ℕ → ℕ
place_in words w = position_or_len (bytes_eq w) words

abbrev pub same_stream : Stream → Stream → Bool
same_stream x y = x.sender == y.sender && (x.receiver == y.receiver && (beq x.has_id y.has_id && x.number == y.number))

-- the streams, with this one if it isn't among them
abbrev pub with_stream : List Stream → Stream → List Stream
with_stream streams x = if list_any (same_stream x) streams then streams else streams ++ x ∷ []

abbrev pub kind_of : HostEvent → Kind
kind_of s = if s.sends then Send else Receive

-- the names of messages, with that of a line without an id
abbrev pub names_with : List (List ℕ) → Option ℕ → List ℕ → List (List ℕ)
names_with names None name = with_word names name
names_with names (Some id) name = names

-- the number of its id or, without an id, of its name
abbrev pub number_in : List (List ℕ) → Option ℕ → List ℕ → ℕ
number_in names None name = place_in names name
number_in names (Some id) name = id

-- the stream of a line between these two instances, after these names of messages
abbrev pub stream_of : List (List ℕ) → ℕ → ℕ → HostEvent → Stream
stream_of names host peer s = record {
  sender = if s.sends then host else peer;
  receiver = if s.sends then peer else host;
  has_id = is_some s.id;
  number = number_in names s.id s.name;
}

-- its entry, after these streams
abbrev pub entry_of : List Stream → Stream → ℕ → ℕ → HostEvent → Entry
entry_of streams stream host peer s = record {
  host = host;
  host_name = s.host;
  kind = kind_of s;
  peer = peer;
  name = s.name;
  stream = position_or_len (same_stream stream) streams;
  place = s.place;
}

-- the hosts, with those of a line
abbrev pub with_hosts : List (List ℕ) → HostEvent → List (List ℕ)
with_hosts hosts s = with_word (with_word hosts s.host) s.peer

-- the instance of its host, and that of its peer
abbrev pub host_in : List (List ℕ) → HostEvent → ℕ
host_in hosts s = suc (place_in hosts s.host)

abbrev pub peer_in : List (List ℕ) → HostEvent → ℕ
peer_in hosts s = suc (place_in (with_word hosts s.host) s.peer)

-- what is known before a line: names of hosts and of messages, and streams
pub record Before : Type 0 where
  pub hosts : List (List ℕ)
  pub names : List (List ℕ)
  pub streams : List Stream

abbrev pub stream_in : Before → HostEvent → Stream
stream_in b s = stream_of b.names (host_in b.hosts s) (peer_in b.hosts s) s

-- what is known after a line
abbrev pub with_line : Before → HostEvent → Before
with_line b s = record {
  hosts = with_hosts b.hosts s;
  names = names_with b.names s.id s.name;
  streams = with_stream b.streams (stream_in b s);
}

abbrev pub entry_in : Before → HostEvent → Entry
entry_in b s = entry_of b.streams (stream_in b s) (host_in b.hosts s) (peer_in b.hosts s) s

-- the entries of these lines
unfoldable pub entries_from : Before → List HostEvent → List Entry
entries_from b [] = []
entries_from b (s ∷ event) = entry_in b s ∷ entries_from (with_line b s) event

-- the names of the hosts, with those of these lines
unfoldable pub hosts_from : Before → List HostEvent → List (List ℕ)
hosts_from b [] = b.hosts
hosts_from b (s ∷ event) = hosts_from (with_line b s) event
