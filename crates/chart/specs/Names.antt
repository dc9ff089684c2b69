-- What a name is, and the first fault of other bytes (this project's profile of the names of ITU-T Z.120, whose words
-- are reserved).
use Rattle.std.specs.Prelude.{◌≡◌, ℕ, suc, ◌+◌, Bool, not, ◌||◌, ◌&&◌, List, [], ◌∷◌, length, Option, None, Some, Result, Ok, Err, position, option_map, bytes_eq, nat_lt, nat_le, ◌==◌, if◌then◌else◌}
use Rattle.chart.specs.Words.{Instance, Name, Text}
use Rattle.chart.specs.Keywords.{is_reserved}
use Rattle.chart.specs.declared.name.NameError.{NameError}
use Rattle.chart.specs.declared.name.NameError.TheVariants.{Empty, TooLong, BadByte, Reserved}
use Rattle.chart.specs.declared.name.TheConstants.{MAX_NAME}

-- A to Z or a to z
abbrev pub is_letter : ℕ → Bool
is_letter b = (nat_le 65 b && nat_le b 90) || (nat_le 97 b && nat_le b 122)

-- a letter, 0 to 9 or _
abbrev pub is_name_byte : ℕ → Bool
is_name_byte b = is_letter b || (nat_le 48 b && nat_le b 57) || b == 95

-- the number, from 1, of the first byte that doesn't belong: a name is a letter, and then letters, digits and _
abbrev pub bad_place : Text → Option ℕ
bad_place [] = None
bad_place (b ∷ bs) = if is_letter b then option_map (λ i. i + 2) (position (λ c. not (is_name_byte c)) bs) else Some 1

-- the bytes as a name, or their first fault
unfoldable pub name_of : Text → Result Name NameError
name_of w =
    if length w == 0 then Err Empty
    else (if nat_lt MAX_NAME (length w) then Err TooLong else (bad_or_reserved (bad_place w)))
  where
    bad_or_reserved : Option ℕ → Result Name NameError
    bad_or_reserved (Some place) = Err (BadByte place)
    bad_or_reserved None = if is_reserved w then Err Reserved else Ok w

-- the bytes are a name
abbrev pub IsName : Text → Type 0
IsName w = name_of w ≡ Ok w

-- the instance that has the name: its number in the list of names, from 1
abbrev pub instance_of : List Name → Text → Option Instance
instance_of names w = option_map suc (position (bytes_eq w) names)
