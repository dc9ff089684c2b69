-- Numbers in words of a command line (this project's profile).
use Rattle.std.specs.Prelude.{◌≡◌, ℕ, ◌^◌, ◌<◌, true, List, length}
use Rattle.std.specs.Char.{is_ascii_digit}
use Rattle.std.specs.List.{list_all}
use Rattle.schedule.specs.FirstLines.{number_from}

-- at least one digit, and nothing but digits, for a number that fits in 64 bits
abbrev pub IsNumber : List ℕ → Type 0
IsNumber word = (0 < length word) × (list_all is_ascii_digit word ≡ true) × (number_from 0 word < 2 ^ 64)

-- the number in the word
abbrev pub number_of : List ℕ → ℕ
number_of word = number_from 0 word
