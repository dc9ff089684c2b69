-- The lines of a log with messages from one host to another, in words of the log, which may have several words for a
-- host.
use Rattle.std.specs.Prelude.{ℕ, Bool, not, List, Option, map, filter, is_some, unwrap_or, bytes_eq}
use Rattle.log_lines.specs.Events.{LoggedEventView}
use Rattle.log_lines.specs.declared.event.Act.{Act}
use Rattle.log_lines.specs.declared.event.Act.TheVariants.{Send, Receive}
use Rattle.log_lines.specs.Names.Hosts.{PeerView, host_of}
use Rattle.race_verdicts.specs.Recordings.{WordsView}
use Rattle.log_lines.specs.declared.takes.key.Key.{Key}

-- the line's message goes from one host to another
abbrev pub is_between : List PeerView → LoggedEventView → Bool
is_between peers s = not (bytes_eq (host_of peers s.event.host) (host_of peers s.event.peer))

-- the lines of messages from one host to another
abbrev pub between : List PeerView → List LoggedEventView → List LoggedEventView
between peers logged = filter (is_between peers) logged

-- the host, the peer and the message's name on a line
abbrev pub line_words : List PeerView → LoggedEventView → WordsView
line_words peers s = record { host = host_of peers s.event.host; peer = host_of peers s.event.peer; name = s.event.name }

-- the same for each of these lines
unfoldable pub words_in : List PeerView → List LoggedEventView → List WordsView
words_in peers logged = map (line_words peers) (between peers logged)

-- the key that the lines of a message share: its lane, and its id, or its name if it has no id
pub record KeyView : Type 0 where
  pub sender : List ℕ
  pub receiver : List ℕ
  pub has_id : Bool
  pub word : List ℕ

abbrev pub key_view : Key → KeyView
key_view k = record { sender = k.sender.now; receiver = k.receiver.now; has_id = k.has_id; word = k.word.now }

abbrev pub key_of : List ℕ → List ℕ → List ℕ → Option (List ℕ) → KeyView
key_of sender receiver name id = record { sender = sender; receiver = receiver; has_id = is_some id; word = unwrap_or id name }

abbrev pub key_by : Act → List ℕ → List ℕ → List ℕ → Option (List ℕ) → KeyView
key_by Send host peer name id = key_of host peer name id
key_by Receive host peer name id = key_of peer host name id

-- the key of a line
abbrev pub line_key : List PeerView → LoggedEventView → KeyView
line_key peers s = key_by s.event.act (host_of peers s.event.host) (host_of peers s.event.peer) s.event.name s.event.id

-- the keys of all lines with messages from one host to another
unfoldable pub keys_in : List PeerView → List LoggedEventView → List KeyView
keys_in peers logged = map (line_key peers) (between peers logged)
