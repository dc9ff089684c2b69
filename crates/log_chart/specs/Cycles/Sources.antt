-- What is directly before each line, in two tables: the line above it of its host, and the send that it takes. For the
-- crate's own functions.
use Rattle.std.specs.Prelude.{◌≡◌, ℕ, ◌<◌, ◌≤◌, ◌==◌, List, length, take, fold, Option, None, Some, slice_index_or, AllPairs, All, if◌then◌else◌}
use Rattle.log_chart.specs.FateTables.{IsWithin}
use Rattle.log_chart.specs.declared.matching.LogLine.{LogLine}
use Rattle.log_chart.specs.Cycles.Order.{Follows}

-- the numbers of these lines rise, and they and their sends are below n
pub record AreLines (n : ℕ) (lines : List LogLine) : Type 0 where
  pub numbered : All (λ x. x.number < n) lines
  pub sends : All (λ x. IsWithin n x.send) lines
  pub rise : AllPairs (λ x y. x.number < y.number) lines

-- their hosts are among n
abbrev pub HaveHosts : ℕ → List LogLine → Type 0
HaveHosts n lines = All (λ x. (1 ≤ x.entry.host) × (x.entry.host ≤ n)) lines

-- the last line of each host, after one more line
abbrev pub host_last : (ℕ → Option ℕ) → LogLine → ℕ → Option ℕ
host_last last x h = if x.entry.host == h then Some x.number else last h

-- the last line of each host, of the first n lines
abbrev pub lasts_at : List LogLine → ℕ → ℕ → Option ℕ
lasts_at lines n = fold host_last (λ h. None) (take n lines)

-- by the tables a is directly before b
pub data IsDirect (tops sends : List (Option ℕ)) (a b : ℕ) : Type 0 where
  above : slice_index_or tops b None ≡ Some a → IsDirect tops sends a b
  sent : slice_index_or sends b None ≡ Some a → IsDirect tops sends a b

pub data Leads (tops sends : List (Option ℕ)) : ℕ → ℕ → Type 0 where
  direct : {a b : ℕ} → IsDirect tops sends a b → Leads tops sends a b
  through : {a d b : ℕ} → Leads tops sends a d → Leads tops sends d b → Leads tops sends a b

-- the tables, of n numbers, have what is directly before each line
pub record AreSources (lines : List LogLine) (n : ℕ) (tops sends : List (Option ℕ)) : Type 0 where
  pub above_whole : length tops ≡ n
  pub sends_whole : length sends ≡ n
  pub within : (a b : ℕ) → IsDirect tops sends a b → a < n
  pub sound : (a b : ℕ) → IsDirect tops sends a b → Follows lines a b
  pub all : (a b : ℕ) → Follows lines a b → Leads tops sends a b
