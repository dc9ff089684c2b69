-- What tables hold of lanes and messages: for the crate's own functions.
use Rattle.std.specs.Prelude.{◌≡◌, ℕ, ◌<◌, List, length, All, Option, None, Some, slice_index_or}
use Rattle.log_chart.specs.LaneTables.{AreLanes}
use Rattle.log_chart.specs.Fates.{first_sent, last_sent, message_fate}
use Rattle.log_chart.specs.declared.matching.LogLine.{LogLine}
use Rattle.log_chart.specs.declared.fate.Fate.{Fate}

abbrev pub AreFirst : List (Option ℕ) → List LogLine → Type 0
AreFirst table lines = AreLanes table (first_sent lines)

abbrev pub AreLast : List (Option ℕ) → List LogLine → Type 0
AreLast table lines = AreLanes table (last_sent lines)

abbrev pub AreFates : List (Option Fate) → List LogLine → Type 0
AreFates table lines = (s : ℕ) → s < length table → slice_index_or table s None ≡ message_fate s lines

-- the send, if there is one, is one of n lines
abbrev pub IsWithin : ℕ → Option ℕ → Type 0
IsWithin n None = Unit {0}
IsWithin n (Some s) = s < n

abbrev pub AreWithin : List LogLine → Type 0
AreWithin lines = All (λ x. IsWithin (length lines) x.send) lines

-- the number of each line is below the count of the lines
abbrev pub AreNumbered : List LogLine → Type 0
AreNumbered lines = All (λ x. x.number < length lines) lines
