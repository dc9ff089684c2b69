-- The values of `--hosts` and of `--peer`: hosts joined by commas; and a host with its other names in the log, after
-- `=` and joined by commas (this project's profile).
use Rattle.std.specs.Prelude.{◌≡◌, ℕ, Bool, true, false, List, [], ◌∷◌, map, Option, None, Some}
use Rattle.std.specs.List.{list_any}
use Rattle.log_lines.specs.Names.Hosts.{PeerView}
use Rattle.texts.specs.Lines.{parts}
use Rattle.mscview_requests.specs.Words.Words.{is_equals, round}
use Rattle.mscview_requests.specs.declared.words.hosts.PeerWord.{PeerWord}

abbrev pub is_empty : List ℕ → Bool
is_empty [] = true
is_empty (byte ∷ bytes) = false

-- the parts that commas (byte 44) join, and none is empty
abbrev pub AreHosts : List ℕ → List (List ℕ) → Type 0
AreHosts word hosts = (hosts ≡ parts 44 word) × (list_any is_empty (parts 44 word) ≡ false)

-- the hosts that come first, if a word gives them
abbrev pub AreFirst : Option (List ℕ) → List (List ℕ) → Type 0
AreFirst None hosts = hosts ≡ []
AreFirst (Some word) hosts = AreHosts word hosts

-- the part before `=` is a host's name, and the part after it has its other names
abbrev pub IsPeerAt : Option (List ℕ × List ℕ) → PeerView → Type 0
IsPeerAt None peer = ⊥
IsPeerAt (Some (name, words)) peer = (peer.name ≡ name) × (is_empty name ≡ false) × AreHosts words peer.words

abbrev pub IsPeer : List ℕ → PeerView → Type 0
IsPeer word peer = IsPeerAt (round is_equals word) peer

abbrev pub peer_word_view : PeerWord → PeerView
peer_word_view word = record { name = word.name.now; words = map (λ w. w.now) word.words.items }
