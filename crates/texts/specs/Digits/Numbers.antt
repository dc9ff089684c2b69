-- Numbers in decimal digits.
use Rattle.std.specs.Prelude.{ℕ, ◌+◌, ◌-◌, ◌*◌, ◌||◌, ◌==◌, nat_lt, List, [], ◌∷◌, length, Option, None, Some, option_and_then, if◌then◌else◌}

-- a number with one more digit, if it has at most 32 bits
unfoldable pub with_digit : ℕ → ℕ → Option ℕ
with_digit number digit =
    if nat_lt digit 48 || nat_lt 57 digit then None else (
    if nat_lt (number * 10 + (digit - 48)) 4294967296 then Some (number * 10 + (digit - 48)) else None)

abbrev pub number_from : ℕ → List ℕ → Option ℕ
number_from number [] = Some number
number_from number (digit ∷ digits) = option_and_then (λ more. number_from more digits) (with_digit number digit)

-- the number with these decimal digits
unfoldable pub number_in : List ℕ → Option ℕ
number_in digits = if length digits == 0 then None else number_from 0 digits
