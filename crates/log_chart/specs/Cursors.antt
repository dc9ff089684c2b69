-- How far a list has been visited: for the crate's own functions.
use Rattle.std.specs.Prelude.{ℕ, ◌-◌, List, length, Option, None, Some}

-- how many numbers there may be from this one on
abbrev pub left_from : List (Option ℕ) → Option ℕ → ℕ
left_from next None = 0
left_from next (Some n) = length next - n
