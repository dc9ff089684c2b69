-- Tables with an entry for each number below a limit, and the meaning of entries (this project's own).
use Rattle.std.specs.Prelude.{◌≡◌, ◌≢◌, ℕ, ◌<◌, List, length, Option, None, Some, slice_index_or}

-- the entry is the first of the numbers below n for which the fact holds, if there is one
abbrev pub IsFirst : (ℕ → Type 0) → ℕ → Option ℕ → Type 0
IsFirst P n None = (k : ℕ) → k < n → P k → ⊥
IsFirst P n (Some m) = (m < n) × P m × ((k : ℕ) → k < m → P k → ⊥)

-- the entry is the last of these numbers
abbrev pub IsLast : (ℕ → Type 0) → ℕ → Option ℕ → Type 0
IsLast P n None = (k : ℕ) → k < n → P k → ⊥
IsLast P n (Some m) = (m < n) × P m × ((k : ℕ) → m < k → k < n → P k → ⊥)

-- the number was stored for the key, unless the key had one
pub record IsNoted (old new : List (Option ℕ)) (key number : ℕ) : Type 0 where
  pub whole : length new ≡ length old
  pub others : (k : ℕ) → k ≢ key → slice_index_or new k None ≡ slice_index_or old k None
  pub kept : (n : ℕ) → slice_index_or old key None ≡ Some n → slice_index_or new key None ≡ Some n
  pub noted : key < length old → slice_index_or old key None ≡ None → slice_index_or new key None ≡ Some number
