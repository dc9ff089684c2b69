-- Searches backwards for all that comes before a line: for the crate's own functions.
use Rattle.std.specs.Prelude.{◌≡◌, ℕ, ◌+◌, ◌≤◌, ◌⊎◌, Bool, true, false, not, List, length, count_by, Option, Some, slice_index_or, Contains}
use Rattle.log_chart.specs.Cycles.Sources.{IsDirect, Leads}

abbrev pub IsSeen : List Bool → ℕ → Type 0
IsSeen seen a = slice_index_or seen a false ≡ true

-- how many steps there may still be
abbrev pub to_do : List Bool → List ℕ → ℕ
to_do seen stack = count_by not seen + count_by not seen + length stack

-- the line with this number, if there is one, was reached
pub record HasReached (number : Option ℕ) (seen : List Bool) (stack : List ℕ) (seen_after : List Bool) (stack_after : List ℕ) : Type 0 where
  pub whole : length seen_after ≡ length seen
  pub there : (a : ℕ) → number ≡ Some a → IsSeen seen_after a
  pub kept : (a : ℕ) → IsSeen seen a → IsSeen seen_after a
  pub new : (a : ℕ) → IsSeen seen_after a → IsSeen seen a ⊎ ((number ≡ Some a) × Contains stack_after a)
  pub stack_kept : (a : ℕ) → Contains stack a → Contains stack_after a
  pub stack_new : (a : ℕ) → Contains stack_after a → Contains stack a ⊎ ((number ≡ Some a) × IsSeen seen_after a)
  pub less : to_do seen_after stack_after ≤ to_do seen stack

-- what is directly before the line with this number was reached
pub record HasFollowed (tops sends : List (Option ℕ)) (b : ℕ) (seen : List Bool) (stack : List ℕ) (seen_after : List Bool) (stack_after : List ℕ) : Type 0 where
  pub whole : length seen_after ≡ length seen
  pub there : (a : ℕ) → IsDirect tops sends a b → IsSeen seen_after a
  pub kept : (a : ℕ) → IsSeen seen a → IsSeen seen_after a
  pub new : (a : ℕ) → IsSeen seen_after a → IsSeen seen a ⊎ (IsDirect tops sends a b × Contains stack_after a)
  pub stack_kept : (a : ℕ) → Contains stack a → Contains stack_after a
  pub stack_new : (a : ℕ) → Contains stack_after a → Contains stack a ⊎ (IsDirect tops sends a b × IsSeen seen_after a)
  pub less : to_do seen_after stack_after ≤ to_do seen stack

-- with each line that was seen, all that is directly before it was seen
abbrev pub IsClosed : List (Option ℕ) → List (Option ℕ) → List Bool → Type 0
IsClosed tops sends seen = (a b : ℕ) → IsDirect tops sends a b → IsSeen seen b → IsSeen seen a

-- all that was seen comes before the line with this number
abbrev pub AreBefore : List (Option ℕ) → List (Option ℕ) → List Bool → ℕ → Type 0
AreBefore tops sends seen k = (a : ℕ) → IsSeen seen a → Leads tops sends a k

-- what was seen is closed and comes before k, and all that is directly before k was seen
pub record IsPast (tops sends : List (Option ℕ)) (k : ℕ) (seen : List Bool) : Type 0 where
  pub closed : IsClosed tops sends seen
  pub before : AreBefore tops sends seen k
  pub begins : (a : ℕ) → IsDirect tops sends a k → IsSeen seen a

-- a search so far: the sources of the lines on the stack are still to be reached
pub record IsSearch (tops sends : List (Option ℕ)) (k : ℕ) (seen : List Bool) (stack : List ℕ) : Type 0 where
  pub pending : (a b : ℕ) → IsDirect tops sends a b → IsSeen seen b → IsSeen seen a ⊎ Contains stack b
  pub before : AreBefore tops sends seen k
  pub begins : (a : ℕ) → IsDirect tops sends a k → IsSeen seen a
  pub stacked : (b : ℕ) → Contains stack b → IsSeen seen b
