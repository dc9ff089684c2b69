-- The places of bytes in a text: lines and columns are counted from 1, and columns in bytes.
use Rattle.std.specs.Prelude.{ℕ, ◌+◌, ◌==◌, List, [], ◌∷◌, if◌then◌else◌}
use Rattle.texts.specs.declared.bytes.place.Place.{Place}

-- the place at which a text begins
abbrev pub start : Place
start = record { line = 1; column = 1 }

-- the place after a byte that is at this place: a line feed ends a line
abbrev pub behind_byte : Place → ℕ → Place
behind_byte p b =
    if b == 10 then record { line = p.line + 1; column = 1 } else record { line = p.line; column = p.column + 1 }

-- the place after these bytes, the first of which is at this place
unfoldable pub behind : Place → List ℕ → Place
behind p [] = p
behind p (b ∷ bs) = behind (behind_byte p b) bs
