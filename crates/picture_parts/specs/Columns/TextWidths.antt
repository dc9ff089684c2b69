-- The widths of a picture's texts, and the place where a long name is broken (this project's profile).
use Rattle.std.specs.Prelude.{ℕ, ◌+◌, ◌*◌, ◌-◌, ◌/◌, min, max, Bool, nat_eq, nat_lt, nat_le, List, length, drop, Option, None, Some, position, if◌then◌else◌}

-- the width of n characters in pixels: in a font of 11 pixels a character is at most 20/3 pixels wide
abbrev pub text_width : ℕ → ℕ
text_width n = (20 * min n 80 + 2) / 3

abbrev pub behind : ℕ → Option ℕ → ℕ
behind third None = 0
behind third (Some k) = third + k + 1

-- the number of bytes of a name's upper line: if the name has more than 12 bytes, those up to the first _ (byte 95)
-- after its first third; otherwise, and without such a byte, 0 for a name in one line
abbrev pub break_of : List ℕ → ℕ
break_of name =
    if nat_le (length name) 12 then 0
    else behind (length name / 3) (position (λ b. nat_eq b 95) (drop (length name / 3) name))

-- a name is broken if it is between two neighbours
abbrev pub line_break : Bool → List ℕ → ℕ
line_break near name = if near then break_of name else 0

-- the width of a name: that of its longer line
abbrev pub name_width : Bool → List ℕ → ℕ
name_width near name = text_width (max (line_break near name) (length name - line_break near name))

-- the width of the label of a cut message: two names, a word between them, and the arrow before them
abbrev pub cut_width : List ℕ → List ℕ → ℕ
cut_width name other = text_width (length name + length other + 6) + 21

-- the width of a number, in a font of 9 pixels
abbrev pub number_width : ℕ → ℕ
number_width n = if nat_lt n 10 then 6 else (if nat_lt n 100 then 11 else (if nat_lt n 1000 then 17 else 22))
