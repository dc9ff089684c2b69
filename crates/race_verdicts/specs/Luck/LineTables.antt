-- The line that takes each message, for the crate's own functions.
use Rattle.std.specs.Prelude.{◌≡◌, ℕ, ◌<◌, List, length, Option, None, Some, slice_get, slice_index_or}
use Rattle.log_chart.specs.declared.matching.LogLine.{LogLine}
use Rattle.race_verdicts.specs.Luck.Tables.{IsFirst}

-- line t takes the message that line s sends
pub record Takes (lines : List LogLine) (s t : ℕ) : Type 0 where
  pub line : LogLine
  pub is : slice_get lines t ≡ Some line
  pub send : line.send ≡ Some s

-- the table has, for each line, the first line that takes its message
pub record AreTakers (lines : List LogLine) (takers : List (Option ℕ)) : Type 0 where
  pub whole : length takers ≡ length lines
  pub each : (s : ℕ) → s < length lines → IsFirst (Takes lines s) (length lines) (slice_index_or takers s None)
