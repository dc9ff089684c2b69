-- The hosts of a log in the order of their names, byte by byte. This order doesn't depend on the order between the
-- lines of several hosts.
use Rattle.std.specs.Prelude.{ℕ, zero, suc, ◌==◌, Bool, List, [], ◌∷◌, Option, None, Some, if◌then◌else◌}
use Rattle.std.specs.Cmp.Lexicographic.{slice_cmp}
use Rattle.std.specs.Ordering.{nat_cmp, is_lt}
use Rattle.log_chart.specs.declared.entry.Entry.{Entry}
use Rattle.log_chart.specs.declared.name_order.HostName.{HostName}

-- the name of a host, from the first of its lines
unfoldable pub name_of : List Entry → ℕ → Option (List ℕ)
name_of [] p = None
name_of (e ∷ log) p = if e.host == p then Some e.host_name else name_of log p

-- no name has no bytes
abbrev pub bytes_of : Option (List ℕ) → List ℕ
bytes_of None = []
bytes_of (Some name) = name

abbrev pub is_before : HostName → HostName → Bool
is_before x y = is_lt (slice_cmp nat_cmp (bytes_of x.name) (bytes_of y.name))

-- a host after all hosts whose names aren't greater
unfoldable pub put_by_name : List HostName → HostName → List HostName
put_by_name [] x = x ∷ []
put_by_name (y ∷ hosts) x = if is_before x y then x ∷ y ∷ hosts else y ∷ put_by_name hosts x

abbrev pub host_of : List Entry → ℕ → HostName
host_of log p = record { host = p; name = name_of log p }

-- n hosts in the order of their names
unfoldable pub by_name : ℕ → List Entry → List HostName
by_name zero log = []
by_name (suc n) log = put_by_name (by_name n log) (host_of log (suc n))
