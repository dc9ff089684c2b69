-- Places in a text: lines from 1, columns in bytes from 1.
use Rattle.std.specs.Prelude.{Bool, ◌||◌, ◌&&◌, ◌==◌, nat_lt, if◌then◌else◌}
use Rattle.diagrams.specs.declared.place.Place.{Place}

-- p is above q, or to the left of it in the same line
abbrev pub is_before : Place → Place → Bool
is_before p q = nat_lt p.line q.line || (p.line == q.line && nat_lt p.column q.column)

-- the earlier of two places
abbrev pub earlier : Place → Place → Place
earlier p q = if is_before q p then q else p
