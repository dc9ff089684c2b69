-- The types that take a text, as contracts see them.
use Rattle.std.specs.Prelude.{ℕ, ◌+◌, ◌-◌, ◌^◌, min, Option}
use Rattle.chart.specs.Words.{Text}

-- what is known of an output: its bytes, if it reveals them, and the number of failed puts, a count that stops at
-- u64::MAX
pub record Sink : Type 0 where
  pub contents : Option Text
  pub failures : ℕ

-- a text in memory, and the number of failed puts
pub record Stored : Type 0 where
  pub bytes : Text
  pub failures : ℕ

-- the writer that takes a text, and the number of failed puts
pub record Streamed (W : Type 0) : Type 0 where
  pub writer : W
  pub failures : ℕ

-- one more failure, in a count that stops at u64::MAX
abbrev pub one_more : ℕ → ℕ
one_more n = min (n + 1) (2 ^ 64 - 1)
