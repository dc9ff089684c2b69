-- Hosts for which a log has several words.
use Rattle.std.specs.Prelude.{ℕ, List, [], ◌∷◌, map, bytes_eq, if◌then◌else◌}
use Rattle.std.specs.List.{list_any}
use Rattle.log_lines.specs.declared.names.hosts.Peer.{Peer}

-- a host, and other words that a log has for it
pub record PeerView : Type 0 where
  pub name : List ℕ
  pub words : List (List ℕ)

abbrev pub peer_view : Peer → PeerView
peer_view p = record { name = p.name.now; words = map (λ w. w.now) p.words.now }

-- the host for a word of the log: the first host that has the word, or else the host with the word as its name
abbrev pub host_of : List PeerView → List ℕ → List ℕ
host_of [] word = word
host_of (p ∷ peers) word = if list_any (bytes_eq word) p.words then p.name else host_of peers word
