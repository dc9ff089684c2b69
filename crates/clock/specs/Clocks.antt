-- Vector time: one entry for each instance (Fidge 1988, Mattern 1989). The entry of instance p is at index p - 1 (this
-- project's profile).
use Rattle.std.specs.Prelude.{ℕ, zero, suc, max, map, slice_index, slice_set}
use Rattle.std.specs.List.{zip}
use Rattle.chart.specs.Words.{Clock, Instance}

-- the entry of an instance, which has a number from 1
abbrev pub entry_of : Clock → Instance → ℕ
entry_of clock zero = 0
entry_of clock (suc place) = slice_index clock place

-- the clock with this entry for the instance, and its other entries
abbrev pub with_entry : Clock → Instance → ℕ → Clock
with_entry clock zero entry = clock
with_entry clock (suc place) entry = slice_set clock place entry

-- the greater of each pair of entries
abbrev pub merged : Clock → Clock → Clock
merged ours theirs = map (λ both. max both.0 both.1) (zip ours theirs)
