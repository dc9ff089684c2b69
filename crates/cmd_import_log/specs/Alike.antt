-- Hosts that a log may name by two words. One of them has lines, and no line names it as a peer. The other has no
-- lines, and some line names it as a peer. One name may be short for the other.
use Rattle.std.specs.Prelude.{ℕ, ◌==◌, ◌&&◌, ◌||◌, Bool, true, false, List, [], ◌∷◌, ◌++◌, Option, None, Some, bytes_eq, if◌then◌else◌}
use Rattle.std.specs.List.{list_any}
use Rattle.log_lines.specs.declared.names.line.NamedLine.{NamedLine}
use Rattle.cmd_import_log.specs.declared.answers.alike.Alike.{Alike}

-- the bytes of the first occur in the second, in the same order
abbrev pub comes_in : List ℕ → List ℕ → Bool
comes_in [] word = true
comes_in (a ∷ short) [] = false
comes_in (a ∷ short) (b ∷ word) = comes_in (if a == b then short else a ∷ short) word

-- the first may be short for the second: both begin with the same byte, and its other bytes occur in the second, in
-- the same order
abbrev pub is_short_for : List ℕ → List ℕ → Bool
is_short_for [] word = false
is_short_for (a ∷ short) [] = false
is_short_for (a ∷ short) (b ∷ word) = a == b && comes_in short word

abbrev pub are_alike : List ℕ → List ℕ → Bool
are_alike a b = is_short_for a b || is_short_for b a

-- a host has a line of its own
abbrev pub has_line : List NamedLine → List ℕ → Bool
has_line lines name = list_any (λ line. bytes_eq line.host name) lines

-- a line names the host as a peer
abbrev pub is_peer : List NamedLine → List ℕ → Bool
is_peer lines name = list_any (λ line. bytes_eq line.peer name) lines

-- the host has lines of its own, no line names it as a peer, and its name is like this one
abbrev pub may_be : List NamedLine → List ℕ → List ℕ → Bool
may_be lines peer host = if is_peer lines host then false else has_line lines host && are_alike peer host

-- the first such host
abbrev pub first_alike : List NamedLine → List ℕ → List (List ℕ) → Option (List ℕ)
first_alike lines peer [] = None
first_alike lines peer (host ∷ hosts) = if may_be lines peer host then Some host else first_alike lines peer hosts

-- the list with this host and this peer, if there is such a host
abbrev pub with_host : List Alike → List ℕ → Option (List ℕ) → List Alike
with_host found peer None = found
with_host found peer (Some host) = found ++ record { host = host; peer = peer } ∷ []

-- the list with these hosts without a line of their own, if lines name them as peers and they may be other hosts
abbrev pub with_alike : List NamedLine → List (List ℕ) → List Alike → List (List ℕ) → List Alike
with_alike lines hosts found [] = found
with_alike lines hosts found (peer ∷ peers) =
    with_alike lines hosts (if is_peer lines peer then with_host found peer (first_alike lines peer hosts) else found) peers
