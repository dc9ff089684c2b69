-- Lists of numbers in two tables: the first number of each list, and the number after each number (this project's own).
use Rattle.std.specs.Prelude.{◌≡◌, ℕ, ◌<◌, ◌==◌, List, [], ◌∷◌, length, drop, Option, None, Some, slice_index_or, if◌then◌else◌}

-- the number is less than all numbers of a list
abbrev pub IsBelow : ℕ → List ℕ → Type 0
IsBelow n [] = Unit {0}
IsBelow n (x ∷ xs) = (n < x) × IsBelow n xs

-- from this number on the table goes along the list
abbrev pub IsChain : List (Option ℕ) → Option ℕ → List ℕ → Type 0
IsChain next None [] = Unit {0}
IsChain next None (x ∷ xs) = ⊥
IsChain next (Some n) [] = ⊥
IsChain next (Some n) (x ∷ xs) = (n ≡ x) × (x < length next) × IsChain next (slice_index_or next x None) xs

-- the tables hold these lists
abbrev pub AreChains : List (Option ℕ) → List (Option ℕ) → (ℕ → List ℕ) → Type 0
AreChains first next lists = (c : ℕ) → c < length first → IsChain next (slice_index_or first c None) (lists c)

-- the first number of a list
abbrev pub first_of : List ℕ → Option ℕ
first_of [] = None
first_of (x ∷ xs) = Some x

-- the lists, one of them with one more number before the others
abbrev pub with_first : (ℕ → List ℕ) → ℕ → ℕ → ℕ → List ℕ
with_first lists c n d = if c == d then n ∷ lists d else lists d

-- the lists, one of them without its first number
abbrev pub without_first : (ℕ → List ℕ) → ℕ → ℕ → List ℕ
without_first lists c d = if c == d then drop 1 (lists d) else lists d
