-- Marks of a backward search from the sends of a host, for the crate's own functions. Each line is marked with the
-- first of these sends that it comes before.
use Rattle.std.specs.Prelude.{◌≡◌, ℕ, suc, ◌<◌, ◌≤◌, ◌⊎◌, All, true, List, [], length, Option, None, Some, map, is_some, slice_get, slice_index_or}
use Rattle.log_chart.specs.Entries.{is_send}
use Rattle.log_chart.specs.declared.matching.LogLine.{LogLine}
use Rattle.log_chart.specs.Cycles.Order.{Comes}
use Rattle.log_chart.specs.Cycles.Searching.{IsClosed}
use Rattle.log_chart.specs.Cycles.Sources.{Leads}
use Rattle.race_verdicts.specs.Luck.Recorded.{IsLog}

-- some more lines were marked, each with this mark
pub record HaveMarked (mark : ℕ) (old new : List (Option ℕ)) : Type 0 where
  pub whole : length new ≡ length old
  pub each : (a : ℕ) → (slice_index_or new a None ≡ slice_index_or old a None)
      ⊎ ((slice_index_or old a None ≡ None) × (slice_index_or new a None ≡ Some mark))

-- line s is a send of the host
pub record IsSendOf (lines : List LogLine) (host s : ℕ) : Type 0 where
  pub line : LogLine
  pub is : slice_get lines s ≡ Some line
  pub its : line.entry.host ≡ host
  pub sends : is_send line.entry.kind ≡ true

-- the sends among the first i lines were searched from
pub record HasPassed (lines : List LogLine) (tops sends : List (Option ℕ)) (host i : ℕ) (marks : List (Option ℕ)) (stack : List ℕ) : Type 0 where
  pub whole : length marks ≡ length lines
  pub empty : stack ≡ []
  pub closed : IsClosed tops sends (map is_some marks)
  pub marked : (a m : ℕ) → slice_index_or marks a None ≡ Some m → (m < i) × IsSendOf lines host m × Leads tops sends a m
  pub all : (s : ℕ) → s < i → IsSendOf lines host s → (a : ℕ) → Leads tops sends a s
      → (m : ℕ) × (slice_index_or marks a None ≡ Some m) × (m ≤ s)

-- the table has, for each line, the first send of the host that it comes before
pub record AreFirsts (lines : List LogLine) (host : ℕ) (firsts : List (Option ℕ)) : Type 0 where
  pub sound : (a m s : ℕ) → slice_index_or firsts a None ≡ Some m → m ≤ s → IsSendOf lines host s → Comes lines a s
  pub all : (a s : ℕ) → IsSendOf lines host s → Comes lines a s → (m : ℕ) × (slice_index_or firsts a None ≡ Some m) × (m ≤ s)

-- there is such a table for each of the first hosts, and the hosts of the log are among these
pub record AreOrdered (lines : List LogLine) (tables : List (List (Option ℕ))) : Type 0 where
  pub log : IsLog lines
  pub hosts : All (λ x. x.entry.host ≤ length tables) lines
  pub each : (p : ℕ) → p < length tables → AreFirsts lines (suc p) (slice_index_or tables p [])
